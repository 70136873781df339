-- What is left to be taken back comes to what all of it comes to.
use Rattle.std.proofs.Common.{◌≡◌, ℕ, ◌<◌, ◌≤◌, ◌+◌, ◌++◌, All, length, map, vec_capacity, vec_len}
use Rattle.r2_link.specs.Faults.{Rose}
use Rattle.r2_link.specs.Links.{LinkTold}
use Rattle.cmd_router.specs.Desks.{ComeBack}
use Rattle.cmd_router.proofs.seating.unseat_all.Given as goal

abbrev pub invariant-seats : goal.invariant-seats
invariant-seats g l =
    record {
      room : vec_len l.passes + length l.left.items ≤ vec_capacity l.passes;
      passes : l.passes.items ++ map (λ s. s.party.party.pass) l.left.items ≡ l.fn.passes.items ++ map (λ s. s.party.party.pass) l.fn.seats.items;
      back : (new : LinkTold) → ComeBack (g.L.Link.told l.link) new (map (λ s. g.L.Link.told s.link) l.left.items)
          → ComeBack (g.L.Link.told l.fn.link) new (map (λ s. g.L.Link.told s.link) l.fn.seats.items);
      steady : g.L.Link.faults l.fn.link ≤ g.L.Link.faults l.link;
      risen : (final : ℕ) → g.L.Link.faults l.link ≤ final → All (λ s. 0 < g.L.Link.faults s.link → Rose (g.L.Link.faults l.link) final) l.left.items
          → All (λ s. 0 < g.L.Link.faults s.link → Rose (g.L.Link.faults l.fn.link) final) l.fn.seats.items;
    }

abbrev pub decreases-seats : goal.decreases-seats
decreases-seats g l = length l.left.items
