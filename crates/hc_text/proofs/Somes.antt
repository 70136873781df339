-- What is in an option.
use Rattle.std.proofs.Common.{◌≡◌, Some, None}

pub some_same : {A : Type 0} (a b : A) → Some a ≡ Some b → a ≡ b
some_same a b same = cc

pub none_is_not_some : {A : Type 0} (a : A) → None ≡ Some a → ⊥
none_is_not_some a same = cc
