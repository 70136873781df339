-- Items of lists.
use Rattle.std.proofs.Common.{◌≡◌, List, [], ◌∷◌, ◌++◌, map, refl, sym, ap, subst, inl, inr}
use Rattle.std.specs.Prelude.{◌⊎◌, All}
use Rattle.std.proofs.lemmas.List.Elements.{All-cons, All-head, All-nil, All-tail}
use Rattle.hc_rules.specs.Log.{In}

-- what holds of each item holds of all
pub all-in : {A : Type 0} (P : A → Type 0) (l : List A) → ((x : A) → In x l → P x) → All P l
all-in P [] each = All-nil P
all-in P (x ∷ l) each = All-cons P x l (each x (inl refl)) (all-in P l (λ y there. each y (inr there)))

-- and what holds of all holds of each
pub holds-in : {A : Type 0} (P : A → Type 0) (x : A) (l : List A) → All P l → In x l → P x
holds-in P x [] all there = absurd there
holds-in P x (y ∷ l) all (inl same) = subst P (sym same) (All-head P y l all)
holds-in P x (y ∷ l) all (inr later) = holds-in P x l (All-tail P y l all) later

pub in-map : {A B : Type 0} (f : A → B) (x : A) (l : List A) → In x l → In (f x) (map f l)
in-map f x [] there = absurd there
in-map f x (y ∷ l) (inl same) = inl (ap f same)
in-map f x (y ∷ l) (inr later) = inr (in-map f x l later)

-- the item that another one is made of
pub record IsMadeOf {A B : Type 0} (f : A → B) (y : B) (l : List A) : Type 0 where
  pub item : A
  pub there : In item l
  pub made : y ≡ f item

pub made-of : {A B : Type 0} (f : A → B) (y : B) (l : List A) → In y (map f l) → IsMadeOf f y l
made-of f y [] there = absurd there
made-of f y (x ∷ l) (inl same) = record { item = x; there = inl refl; made = same }
made-of f y (x ∷ l) (inr later) = let one = made-of f y l later in record { item = one.item; there = inr one.there; made = one.made }

-- an item of either part of a list is one of the list, and an item of the list is one of a part
pub in-left : {A : Type 0} (x : A) (l more : List A) → In x l → In x (l ++ more)
in-left x [] more there = absurd there
in-left x (y ∷ l) more (inl same) = inl same
in-left x (y ∷ l) more (inr later) = inr (in-left x l more later)

pub in-right : {A : Type 0} (x : A) (l more : List A) → In x more → In x (l ++ more)
in-right x [] more there = there
in-right x (y ∷ l) more there = inr (in-right x l more there)

pub in-parts : {A : Type 0} (x : A) (l more : List A) → In x (l ++ more) → In x l ⊎ In x more
in-parts x [] more there = inr there
in-parts x (y ∷ l) more (inl same) = inl (inl same)
in-parts x (y ∷ l) more (inr later) =
    elim (in-parts x l more later) [
      | inl here ↦ inl (inr here)
      | inr there ↦ inr there
    ]
