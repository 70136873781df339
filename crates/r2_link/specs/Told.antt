-- What an object of the outside tells, before and after a call. Of what it does not tell nothing is said.
use Rattle.std.specs.Prelude.{◌≡◌, List, [], ◌∷◌, ◌++◌, drop, ⊤, Option, Some, None}

-- what was told is told as before
abbrev pub IsKept : {A : Type 0} → Option A → Option A → Type 0
IsKept None new = ⊤
IsKept (Some x) None = ⊥
IsKept (Some x) (Some y) = y ≡ x

-- these were told after the ones that were told before
abbrev pub Gains : {A : Type 0} → Option (List A) → Option (List A) → List A → Type 0
Gains None new more = ⊤
Gains (Some xs) None more = ⊥
Gains (Some xs) (Some ys) more = ys ≡ xs ++ more

-- these were the first that were told, and are told no more
abbrev pub Takes : {A : Type 0} → Option (List A) → Option (List A) → List A → Type 0
Takes None new taken = ⊤
Takes (Some xs) None taken = ⊥
Takes (Some xs) (Some ys) taken = xs ≡ taken ++ ys

-- where any were told to be left, none is left now
abbrev pub RanDry : {A : Type 0} → Option (List A) → Option (List A) → Type 0
RanDry None new = ⊤
RanDry (Some xs) None = ⊥
RanDry (Some xs) (Some ys) = ys ≡ []

-- what another object tells, where it tells it, was told after it
abbrev pub Joins : {A : Type 0} → Option (List A) → Option (List A) → Option (List A) → Type 0
Joins old new None = ⊤
Joins old new (Some more) = Gains old new more

-- the first of those that were told is told no more
abbrev pub LosesFirst : {A : Type 0} → Option (List A) → Option (List A) → Type 0
LosesFirst None new = ⊤
LosesFirst (Some xs) None = ⊥
LosesFirst (Some xs) (Some ys) = ys ≡ drop 1 xs

-- the first of these lists, or an empty one
abbrev pub first_list : {A : Type 0} → List (List A) → List A
first_list [] = []
first_list (xs ∷ rest) = xs

-- where lists are told, another object tells the first of them
abbrev pub HasFirst : {A : Type 0} → Option (List (List A)) → Option (List A) → Type 0
HasFirst None other = ⊤
HasFirst (Some lists) None = ⊥
HasFirst (Some lists) (Some xs) = xs ≡ first_list lists

-- where something is told, another object tells that it has none of it
abbrev pub HasNone : {A : Type 0} → Option (List A) → Option (List A) → Type 0
HasNone None other = ⊤
HasNone (Some xs) None = ⊥
HasNone (Some xs) (Some ys) = ys ≡ []

-- where something is told, another object tells it too
abbrev pub TellsToo : {A : Type 0} → Option A → Option A → Type 0
TellsToo None other = ⊤
TellsToo (Some x) None = ⊥
TellsToo (Some x) (Some y) = ⊤
