-- So many whole rounds were made.
use Rattle.std.proofs.Common.{◌≡◌, ℕ, ◌≤◌, ◌*◌, None}
use Rattle.r2_link.specs.Faults.{NoneFalls, calm}
use Rattle.cmd_loop.specs.Ends.{Ends}
use Rattle.cmd_loop.proofs.Loops.{IsAt}
use Rattle.cmd_loop.proofs.serving.serve.Given as goal

abbrev pub invariant-rounds : goal.invariant-rounds
invariant-rounds g l = record {
  at : (o : Ends) → IsAt g.P.Party.turned l.fn.party l.party l.start l.fn.pace.tick_ms l.ticker l.made
      (record o { link = g.L.Link.told l.fn.link; clock = g.C.Clock.left l.fn.clock; records = g.J.Journal.records l.fn.journal })
      (record o { link = g.L.Link.told l.link; clock = g.C.Clock.left l.clock; records = g.J.Journal.records l.journal });
  tick : l.ticker.tick_ms ≡ l.fn.pace.tick_ms;
  room : (n : ℕ) × (n ≤ 2 * l.made) × g.P.Party.had_turns n l.party;
  recorded : g.P.Party.recorded l.party (g.J.Journal.records l.journal);
  is_open : g.J.Journal.ended l.journal ≡ None;
  same : g.J.Journal.identity l.journal ≡ g.J.Journal.identity l.fn.journal;
  since : g.J.Journal.since l.fn.journal l.journal;
  steady : NoneFalls (record calm { link = g.L.Link.faults l.fn.link; clock = g.C.Clock.faults l.fn.clock; disk = g.J.Journal.faults l.fn.journal })
      (record calm { link = g.L.Link.faults l.link; clock = g.C.Clock.faults l.clock; disk = g.J.Journal.faults l.journal });
}
