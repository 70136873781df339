-- Counts that stay at the end of their type.
use Rattle.std.proofs.Common.{◌≡◌, ℕ, ◌+◌, ◌-◌, ◌<◌, ◌^◌, min, max, List, [], ◌∷◌, arith}
use Rattle.hc_log.specs.declared.stored.Stored.{Stored}
use Rattle.hc_run.specs.State.{Passed}
use Rattle.hc_run.specs.Steps.{passes}
use Rattle.hc_world.specs.Notes.{capped}
use Rattle.hc_world.specs.Seen.{greatest_passed}

capped-plus_by : (a b m : ℕ) → min (a + b) m ≡ min (min a m + b) m
capped-plus_by a b m = omega arith

pub capped-plus : (a b : ℕ) → capped (a + b) ≡ capped (capped a + b)
capped-plus a b = capped-plus_by a b (2 ^ 64 - 1)

capped-max_by : (a b m : ℕ) → min (max a b) m ≡ max (min a m) (min b m)
capped-max_by a b m = omega arith

pub capped-max : (a b : ℕ) → capped (max a b) ≡ max (capped a) (capped b)
capped-max a b = capped-max_by a b (2 ^ 64 - 1)

pub capped-small : (n m : ℕ) → m < 2 ^ 64 - 1 → capped n < m → capped n ≡ n
capped-small n m small less = by n (2 ^ 64 - 1) m small less
  where
    by : (n most m : ℕ) → m < most → min n most < m → min n most ≡ n
    by n most m small less = omega arith

max-swap : (a b c : ℕ) → max a (max b c) ≡ max b (max a c)
max-swap a b c = omega arith

max-assoc : (a b c : ℕ) → max (max a b) c ≡ max a (max b c)
max-assoc a b c = omega arith

-- the greatest of what v passes is that of what was passed before, and of what it passes alone
pub passed-both : (v index : ℕ) (batch : List Stored) (before : List Passed)
    → greatest_passed (passes v index batch before) ≡ max (greatest_passed before) (greatest_passed (passes v index batch []))
passed-both v index [] before = omega arith
passed-both v index (stored ∷ more) before =
    let p : Passed = record { member = v; index = index; stored = stored } in
    let a = passed-both v (index + 1) more (p ∷ before) in
    let b = passed-both v (index + 1) more (p ∷ []) in
    both index (greatest_passed before) (greatest_passed (passes v (index + 1) more [])) _ _ a b
  where
    both : (i before more all own : ℕ) → all ≡ max (max i before) more → own ≡ max (max i 0) more → all ≡ max before own
    both i before more all own a b = omega arith
