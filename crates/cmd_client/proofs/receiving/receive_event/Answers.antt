-- What an answer of the link is among the items that are heard.
use Rattle.std.proofs.Common.{refl}
use Rattle.r2_link.specs.declared.lane.Item.TheVariants.{Datagram as ADatagram, Quiet as NoDatagram}
use Rattle.cmd_client.proofs.Passing.{heard-datagram, heard-end, heard-quiet}
use Rattle.cmd_client.proofs.receiving.receive_event.Goals as goal

pub returns-in-Ok-Datagram-clause-event : goal.returns-in-Ok-Datagram-clause-event
returns-in-Ok-Datagram-clause-event g c =
    (ADatagram c.in-Ok-Datagram.d, refl, heard-datagram (g.L.Link.told c.args.link.now) (g.L.Link.told c.receive.new.self) c.in-Ok-Datagram.d (rw c.in-Ok-Datagram.field-0-is at c.in-Ok-Datagram.ensures.passed))

pub returns-in-Ok-Quiet-clause-event : goal.returns-in-Ok-Quiet-clause-event
returns-in-Ok-Quiet-clause-event g c =
    (NoDatagram, refl, heard-quiet (g.L.Link.told c.args.link.now) (g.L.Link.told c.receive.new.self) (rw c.in-Ok-Quiet.field-0-is at c.in-Ok-Quiet.ensures.passed))

pub returns-in-Ok-End-clause-event : goal.returns-in-Ok-End-clause-event
returns-in-Ok-End-clause-event g c =
    (NoDatagram, refl, heard-end (g.L.Link.told c.args.link.now) (g.L.Link.told c.receive.new.self) (rw c.in-Ok-End.field-0-is at c.in-Ok-End.ensures.passed) (c.in-Ok-End.ensures.dry c.in-Ok-End.field-0-is))
