-- What was written is the text of the datagrams so far.
use Rattle.std.proofs.Common.{◌≤◌, take}
use Rattle.std.specs.Io.KnownBytes.{Appends}
use Rattle.std.specs.List.{flat_map}
use Rattle.cmd_script.specs.Printed.{out_text}
use Rattle.cmd_replay.proofs.print.print_sends.Given as goal

abbrev pub invariant-sends : goal.invariant-sends
invariant-sends g l = Appends (g.K.Sink.written l.initial.sink) (g.K.Sink.written l.sink) (flat_map out_text (take l.datagram-index l.sends)) × (g.K.Sink.faults l.initial.sink ≤ g.K.Sink.faults l.sink)
