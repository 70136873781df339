-- What was printed is the beginning of what comes after the last line.
use Rattle.std.proofs.Common.{◌-◌, ◌≤◌}
use Rattle.cmd_replay.specs.Replica.{Runs, member_of}
use Rattle.cmd_replay.proofs.Closing.{IsClosing}
use Rattle.cmd_replay.proofs.lines.close.Given as goal

abbrev pub invariant-batches : goal.invariant-batches
invariant-batches g l = record {
  runs : Runs l.initial.replica.setup (member_of l.replica) l.replica;
  closing : IsClosing l.initial.replica.setup (member_of l.initial.replica) (member_of l.replica) (g.K.Sink.written l.initial.sink) (g.K.Sink.written l.sink);
  steady : g.K.Sink.faults l.initial.sink ≤ g.K.Sink.faults l.sink;
}

abbrev pub decreases-batches : goal.decreases-batches
decreases-batches g l = (member_of l.replica).commit - (member_of l.replica).applied
