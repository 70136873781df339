-- The seats so far have the first of the passes, and the twins that were made.
use Rattle.std.proofs.Common.{◌≡◌, ◌≤◌, ◌++◌, All, List, length, map}
use Rattle.r2_link.specs.Links.{LinkTold}
use Rattle.cmd_router.specs.Desks.{AreTwins}
use Rattle.cmd_router.proofs.seating.seat_all.Given as goal

abbrev pub invariant-passes : goal.invariant-passes
invariant-passes g l =
    record {
      passes : map (λ s. s.party.party.pass) l.seats.items ++ l.waiting.items ≡ l.fn.passes.items;
      paced : All (λ s. s.pace ≡ l.pace) l.seats.items;
      twins : (new : LinkTold) (more : List LinkTold) → AreTwins (g.L.Link.told l.link) new more
          → AreTwins (g.L.Link.told l.fn.link) new (map (λ s. g.L.Link.told s.link) l.seats.items ++ more);
      unfailed : All (λ s. g.L.Link.faults s.link ≡ 0) l.seats.items;
      steady : g.L.Link.faults l.fn.link ≤ g.L.Link.faults l.link;
    }

abbrev pub decreases-passes : goal.decreases-passes
decreases-passes g l = length l.waiting.items
