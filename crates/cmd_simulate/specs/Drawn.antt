-- What is drawn by lot.
use Rattle.std.specs.Prelude.{ℕ, ◌%◌}
use Rattle.rand_pcg.specs.Lcg.{Lcg, increment_of, started}
use Rattle.rand_pcg.specs.Pcg.{multiplier_64, pcg32}

-- the lots of a seed
abbrev pub lots_of : ℕ → Lcg
lots_of seed = started 64 multiplier_64 seed (increment_of 64 0)

-- a number below m: the next word of 32 bits modulo m
unfoldable pub drawn : ℕ → Lcg → ℕ
drawn m lots = (pcg32 lots).0 % m

-- the lots after one was drawn
unfoldable pub next_lots : Lcg → Lcg
next_lots lots = (pcg32 lots).1
