-- What is left to be taken back comes to what all of it comes to.
use Rattle.std.proofs.Common.{◌≤◌, length, map}
use Rattle.r2_link.specs.Links.{LinkTold}
use Rattle.cmd_router.specs.Desks.{ComeBack}
use Rattle.cmd_router.proofs.seating.take_back.Given as goal

abbrev pub invariant-seats : goal.invariant-seats
invariant-seats g l =
    record {
      back : (new : LinkTold) → ComeBack (g.L.Link.told l.link) new (map (λ s. g.L.Link.told s.link) l.left.items)
          → ComeBack (g.L.Link.told l.fn.link) new (map (λ s. g.L.Link.told s.link) l.fn.seats.items);
      steady : g.L.Link.faults l.fn.link ≤ g.L.Link.faults l.link;
    }

abbrev pub decreases-seats : goal.decreases-seats
decreases-seats g l = length l.left.items
