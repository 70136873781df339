-- The lines before were run, and what they print was written.
use Rattle.std.proofs.Common.{◌-◌, ◌≤◌, ◌^◌}
use Rattle.cmd_replay.specs.Replica.{Runs, member_of}
use Rattle.cmd_replay.proofs.Replays.{IsHere}
use Rattle.cmd_replay.proofs.replaying.run_lines.Given as goal

abbrev pub invariant-lines : goal.invariant-lines
invariant-lines g l = record {
  here : IsHere l.initial.replica.setup (member_of l.replica) (g.S.Source.left l.initial.source) (g.S.Source.left l.source) l.reader (g.K.Sink.written l.initial.sink) (g.K.Sink.written l.sink);
  runs : Runs l.initial.replica.setup (member_of l.replica) l.replica;
  lines : l.reader.lines ≤ 2 ^ 56;
  source_steady : g.S.Source.faults l.initial.source ≤ g.S.Source.faults l.source;
  sink_steady : g.K.Sink.faults l.initial.sink ≤ g.K.Sink.faults l.sink;
}

abbrev pub decreases-lines : goal.decreases-lines
decreases-lines g l = 2 ^ 56 - l.reader.lines
