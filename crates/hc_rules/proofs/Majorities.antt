-- Two majorities of a group share a member.
use Rattle.std.proofs.Common.{◌≡◌, ℕ, zero, suc, ◌+◌, ◌<◌, ◌≤◌, Bool, true, false, refl, sym, arith, if◌then◌else◌}
use Rattle.std.proofs.lemmas.Bool.{true≢false}
use Rattle.hc_rules.specs.Majority.{IsMajority, tally}

-- a member below n that passes both tests
pub record Shared (n : ℕ) (p q : ℕ → Bool) : Type 0 where
  pub member : ℕ
  pub below : member < n
  pub first : p member ≡ true
  pub second : q member ≡ true

higher : (n : ℕ) (p q : ℕ → Bool) → Shared n p q → Shared (suc n) p q
higher n p q s = record { member = s.member; below = omega (arith, s.below); first = s.first; second = s.second }

-- the last member passes both tests, or fewer members do
last : (n x y : ℕ) (p q : ℕ → Bool) (a b : Bool) → p n ≡ a → q n ≡ b
    → suc n < ((if a then 1 else 0) + x) + ((if b then 1 else 0) + y) → (n < x + y → Shared n p q) → Shared (suc n) p q
last n x y p q true true e f h rest = record { member = n; below = omega arith; first = e; second = f }
last n x y p q true false e f h rest = higher n p q (rest (omega (arith, h)))
last n x y p q false true e f h rest = higher n p q (rest (omega (arith, h)))
last n x y p q false false e f h rest = higher n p q (rest (omega (arith, h)))

tallies : (n : ℕ) (p q : ℕ → Bool) → n < tally n p + tally n q → Shared n p q
tallies zero p q h = absurd (omega (arith, h))
tallies (suc n) p q h = last n (tally n p) (tally n q) p q (p n) (q n) refl refl h (λ less. tallies n p q less)

-- two majorities share a member
pub shared_member : (n : ℕ) (p q : ℕ → Bool) → IsMajority n p → IsMajority n q → Shared n p q
shared_member n p q h k = tallies n p q (omega (arith, h, k))

-- whoever passes one test passes the other
more : (x y : ℕ) (a b : Bool) → x ≤ y → (a ≡ true → b ≡ true) → (if a then 1 else 0) + x ≤ (if b then 1 else 0) + y
more x y true true h f = omega arith
more x y true false h f = absurd (true≢false (sym (f refl)))
more x y false true h f = omega arith
more x y false false h f = omega arith

tally_grows : (n : ℕ) (p q : ℕ → Bool) → ((v : ℕ) → p v ≡ true → q v ≡ true) → tally n p ≤ tally n q
tally_grows zero p q f = omega arith
tally_grows (suc n) p q f = more (tally n p) (tally n q) (p n) (q n) (tally_grows n p q f) (f n)

pub majority_grows : (n : ℕ) (p q : ℕ → Bool) → ((v : ℕ) → p v ≡ true → q v ≡ true) → IsMajority n p → IsMajority n q
majority_grows n p q f h = omega (arith, h, tally_grows n p q f)

-- a majority has a member
pub some_member : (n : ℕ) (p : ℕ → Bool) → IsMajority n p → Shared n p p
some_member n p h = shared_member n p p h h
