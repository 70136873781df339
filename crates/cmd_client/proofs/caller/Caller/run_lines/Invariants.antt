-- The calls of the lines before were made.
use Rattle.std.proofs.Common.{◌≡◌, ◌-◌, ◌≤◌, ◌^◌, false}
use Rattle.r2_link.specs.Faults.{NoneFalls, calm}
use Rattle.cmd_loop.specs.Ends.{Ends}
use Rattle.cmd_lines.specs.Limits.{most_line}
use Rattle.cmd_client.specs.Caller.{talk_of}
use Rattle.cmd_client.specs.Outside.{around}
use Rattle.cmd_client.proofs.Scripts.{IsHere}
use Rattle.cmd_client.proofs.caller.Caller.run_lines.Given as goal

abbrev pub invariant-lines : goal.invariant-lines
invariant-lines g l = record {
  here : (o : Ends) → IsHere l.initial.self.policy l.initial.self.room l.self.room (g.S.Source.left l.initial.source) (g.S.Source.left l.source) l.reader
      (talk_of l.initial.self) (talk_of l.self)
      (around o (g.K.Sink.written l.initial.sink) (g.L.Link.told l.initial.link) (g.C.Clock.left l.initial.clock))
      (around o (g.K.Sink.written l.sink) (g.L.Link.told l.link) (g.C.Clock.left l.clock));
  lines : l.reader.lines ≤ 2 ^ 56;
  longest : l.reader.longest ≡ most_line;
  policy : l.self.policy ≡ l.initial.self.policy;
  steady : NoneFalls (record calm { source = g.S.Source.faults l.initial.source; link = g.L.Link.faults l.initial.link; clock = g.C.Clock.faults l.initial.clock; sink = g.K.Sink.faults l.initial.sink })
      (record calm { source = g.S.Source.faults l.source; link = g.L.Link.faults l.link; clock = g.C.Clock.faults l.clock; sink = g.K.Sink.faults l.sink });
}

abbrev pub decreases-lines : goal.decreases-lines
decreases-lines g l = 2 ^ 56 - l.reader.lines
