-- Two tests that agree, and what holds of each branch.
use Rattle.std.proofs.Common.{◌≡◌, Bool, true, false, refl}
use Rattle.std.specs.Prelude.{if◌then◌else◌}

-- two tests are equal that pass at the same time
pub bool_same : (a b : Bool) → (a ≡ true → b ≡ true) → (b ≡ true → a ≡ true) → a ≡ b
bool_same true true f g = refl
bool_same false false f g = refl
bool_same true false f g = let e : false ≡ true = f refl in cc
bool_same false true f g = let e : false ≡ true = g refl in cc

-- what holds of each branch holds of the choice
pub branch : {X : Type 0} (P : X → Type 0) (b : Bool) (x y : X) → (b ≡ true → P x) → (b ≡ false → P y) → P (if b then x else y)
branch P true x y f g = f refl
branch P false x y f g = g refl
