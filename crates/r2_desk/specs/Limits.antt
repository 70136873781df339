-- The limits that a desk keeps to.
use Rattle.std.specs.Prelude.{ℕ, ◌^◌}

-- the most passes of a desk, one for each worker
abbrev pub most_workers : ℕ
most_workers = 16

-- the most turns that a desk records
abbrev pub most_steps : ℕ
most_steps = 4096

-- how many turns can be made by one pass
abbrev pub most_pass_turns : ℕ
most_pass_turns = 2 ^ 57
