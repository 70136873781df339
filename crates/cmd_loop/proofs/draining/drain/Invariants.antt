-- So many turns were made after the end of the link.
use Rattle.std.proofs.Common.{ℕ, ◌≤◌}
use Rattle.r2_link.specs.Faults.{NoneFalls, calm}
use Rattle.cmd_loop.specs.Party.{most_events}
use Rattle.cmd_loop.specs.Round.{Closes}
use Rattle.cmd_loop.proofs.draining.drain.Given as goal

abbrev pub invariant-closings : goal.invariant-closings
invariant-closings g l = record {
  closed : (n : ℕ) × Closes g.P.Party.turned l.fn.party l.party (g.L.Link.told l.fn.link) (g.L.Link.told l.link) n;
  room : (n : ℕ) × (n ≤ most_events) × g.P.Party.had_turns n l.party;
  steady : NoneFalls (record calm { link = g.L.Link.faults l.fn.link }) (record calm { link = g.L.Link.faults l.link });
}

abbrev pub decreases-closings : goal.decreases-closings
decreases-closings g l = g.P.Party.waits l.party
