-- A member's whole turn at each kind of event is a list of the protocol's rules.
use Rattle.std.specs.Prelude.{◌≡◌, ◌++◌, All}
use Rattle.r2_base.specs.declared.datagram.Datagram.{Datagram}
use Rattle.r2_base.specs.declared.event.Event.{Event}
use Rattle.r2_base.specs.declared.event.Event.TheVariants as event
use Rattle.hc_member.specs.declared.setup.Setup.{Setup}
use Rattle.hc_member.specs.Member.{Member}
use Rattle.hc_member.specs.Setup.{own_address}
use Rattle.hc_member.specs.Turn.{turned}
use Rattle.hc_rules.specs.Protocol.{ProtocolState}
use Rattle.hc_run.specs.Backed.{IsBackedDatagram, IsMessage, IsRequestPart}
use Rattle.hc_run.specs.Halves.{IsSteps, Stands, passed_by}
use Rattle.hc_run.specs.Held.{IsAsked}
use Rattle.hc_run.specs.WholeTurns.{told_by}

-- a whole turn is rules
abbrev pub IsTurn : Setup → ProtocolState → Member → Event → Type 0
IsTurn s w m e =
    IsSteps s w (turned s m e).member (turned s m e).sends (passed_by s.me m ++ w.passed) (told_by s m e w.reports)

-- a turn at a tick, and one where nothing comes
abbrev pub TimedTurnsAreRules : Type 0
TimedTurnsAreRules =
    (s : Setup) (w : ProtocolState) (m : Member) → Stands s w m → IsTurn s w m event.Tick × IsTurn s w m event.Quiet

-- a turn at a message in a datagram of its own, which was sent to this member
abbrev pub MessageTurnsAreRules : Type 0
MessageTurnsAreRules =
    (s : Setup) (w : ProtocolState) (m : Member) (d : Datagram)
    → Stands s w m → d.to ≡ own_address s → IsMessage s.members w d → IsTurn s w m (event.Datagram d)

-- a turn at a part of a client's request
abbrev pub RequestTurnsAreRules : Type 0
RequestTurnsAreRules =
    (s : Setup) (w : ProtocolState) (m : Member) (d : Datagram)
    → Stands s w m → All IsAsked w.table → IsRequestPart w.table d → IsTurn s w m (event.Datagram d)

-- a turn at any datagram that was sent to this member
abbrev pub DatagramTurnsAreRules : Type 0
DatagramTurnsAreRules =
    (s : Setup) (w : ProtocolState) (m : Member) (d : Datagram)
    → Stands s w m → All IsAsked w.table → d.to ≡ own_address s → IsBackedDatagram s.members w d → IsTurn s w m (event.Datagram d)
