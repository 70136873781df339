-- What was written and what is still to come are the whole, within the room of a reply.
use Rattle.std.proofs.Common.{take}
use Rattle.std.specs.List.{flat_map}
use Rattle.hc_store.specs.Service.{most_scanned, pair_bytes, fitting}
use Rattle.hc_store.proofs.Scans.{IsAhead}
use Rattle.hc_store.proofs.store.push_pairs.Given as goal

abbrev pub invariant-pairs : goal.invariant-pairs
invariant-pairs l =
    (goal.iterator-pairs).can_next l.key-iterator × (goal.iterator-pairs).is_finite l.key-iterator
    × IsAhead l.out.items l.left l.key-iterator (flat_map pair_bytes (fitting most_scanned (take l.limit l.initial.key-iterator)))
