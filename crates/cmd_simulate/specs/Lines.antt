-- What is printed of a simulation.
use Rattle.std.specs.Prelude.{ℕ, List, [], ◌∷◌, ◌++◌, codes}
use Rattle.std.specs.Fmt.{decimal}
use Rattle.hc_world.specs.declared.counts.Counts.{Counts}

-- a line: a name, and a number in decimal
unfoldable pub line : List ℕ → ℕ → List ℕ
line name n = name ++ (decimal n ++ 10 ∷ [])

-- the seed, and the events, the requests, and those that have a reply
unfoldable pub first_lines : ℕ → Counts → List ℕ
first_lines seed counts =
    line (codes "seed ") seed ++ line (codes "events ") counts.events ++ line (codes "requests ") counts.requests
    ++ line (codes "replied ") counts.replied

-- the replies, the greatest index that was applied, the greatest term, and the crashes
unfoldable pub last_lines : Counts → List ℕ
last_lines counts =
    line (codes "replies ") counts.replies ++ line (codes "passed ") counts.passed ++ line (codes "terms ") counts.terms
    ++ line (codes "crashes ") counts.crashes

-- the eight lines
abbrev pub summary : ℕ → Counts → List ℕ
summary seed counts = first_lines seed counts ++ last_lines counts
