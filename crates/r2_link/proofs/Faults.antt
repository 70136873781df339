-- A count that rose in one of several calls rose in all of them together.
use Rattle.std.proofs.Common.{ℕ, ◌≤◌, arith}
use Rattle.r2_link.specs.Faults.{Rose}

pub Rose-then : (a b c : ℕ) → Rose a b → b ≤ c → Rose a c
Rose-then a b c rose on = omega arith

pub then-Rose : (a b c : ℕ) → a ≤ b → Rose b c → Rose a c
then-Rose a b c on rose = omega arith

pub steady-then : (a b c : ℕ) → a ≤ b → b ≤ c → a ≤ c
steady-then a b c first second = omega arith
