-- Majorities of a group: more than half of its members.
use Rattle.std.specs.Prelude.{ℕ, zero, suc, ◌+◌, ◌*◌, ◌<◌, Bool, if◌then◌else◌}

-- how many of the first n members pass a test
abbrev pub tally : ℕ → (ℕ → Bool) → ℕ
tally zero p = 0
tally (suc n) p = (if p n then 1 else 0) + tally n p

-- more than half of n members pass a test (Raft, section 5.2)
abbrev pub IsMajority : ℕ → (ℕ → Bool) → Type 0
IsMajority n p = n < 2 * tally n p
