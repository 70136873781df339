use Rattle.std.proofs.Common.{◌≡◌, map, take}
use Rattle.hc_world.specs.Seat.{replica_of}
use Rattle.hc_world.specs.Seen.{greatest, term_of}
use Rattle.hc_world.proofs.counting.greatest_term.Given as goal

abbrev pub invariant-seats : goal.invariant-seats
invariant-seats l = l.greatest ≡ greatest (map (λ seat. term_of (replica_of seat)) (take l.seat-index l.seats))
