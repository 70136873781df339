-- What holds of each branch, and what a look-up found.
use Rattle.std.proofs.Common.{◌≡◌, Bool, true, false, if◌then◌else◌, Option, Some, None, refl}
use Rattle.std.specs.Prelude.{IfSome, option_and_then, option_map}

-- what holds of each branch holds of the choice
pub branch : {X : Type 0} (P : X → Type 0) (b : Bool) (x y : X) → (b ≡ true → P x) → (b ≡ false → P y) → P (if b then x else y)
branch P true x y left right = left refl
branch P false x y left right = right refl

-- what is made of a value that is there
pub behind : {X Y : Type 0} (P : Y → Type 0) (f : X → Option Y) (o : Option X) → IfSome o (λ x. IfSome (f x) P) → IfSome (option_and_then f o) P
behind P f None h = tt
behind P f (Some x) h = h

-- the value that a look-up gave
pub found : {X : Type 0} (P : X → Type 0) (o : Option X) (x : X) → IfSome o P → o ≡ Some x → P x
found P None x h e = cc
found P (Some y) x h e = let same : y ≡ x = cc in rw (← same) h

-- where nothing was made of what may be there, nothing is there
pub none-mapped : {X Y : Type 0} (f : X → Y) (o : Option X) → option_map f o ≡ None → o ≡ None
none-mapped f None e = refl
none-mapped f (Some x) e = cc
