-- What is left is what was not written yet.
use Rattle.std.proofs.Common.{◌≤◌, length}
use Rattle.r2_link.proofs.Streams.{Partly}
use Rattle.r2_link.proofs.sink.write_all.Given as goal

abbrev pub invariant-pieces : goal.invariant-pieces
invariant-pieces g l = Partly (g.K.Sink.written l.initial.sink) (g.K.Sink.written l.sink) l.piece l.rest × (g.K.Sink.faults l.initial.sink ≤ g.K.Sink.faults l.sink)

abbrev pub decreases-pieces : goal.decreases-pieces
decreases-pieces g l = length l.rest
