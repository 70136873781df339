-- The events of a world, and which of them are possible.
use Rattle.std.specs.Prelude.{◌≡◌, ℕ, ◌<◌, ◌≤◌, ◌+◌, true, false, List, [], ◌∷◌, length, slice_get, Option, Some, None, IsSome, IfSome}
use Rattle.r2_base.specs.declared.datagram.Datagram.{Datagram}
use Rattle.r2_base.specs.declared.entry.Kind.{Kind}
use Rattle.r2_base.specs.Entry.{is_request}
use Rattle.r2_base.specs.Limits.{id_limit, most_body}
use Rattle.r2_base.specs.Numbers.{AreBytes}
use Rattle.hc_rules.specs.Message.{Request}
use Rattle.hc_run.specs.Events as group
use Rattle.hc_run.specs.Events.{GroupEvent}
use Rattle.hc_run.specs.Group.{Receiver, Member, Aggregator, Outside, receiver_at}
use Rattle.hc_world.specs.declared.event.WorldEvent.{WorldEvent}
use Rattle.hc_world.specs.declared.event.WorldEvent.TheVariants.{ClientSend, Deliver, Tick, Quiet, Crash, Restart, CrashInTurn, Forget}
use Rattle.hc_world.specs.Addresses.{rid_of}
use Rattle.hc_world.specs.Seen.{Seen, is_up}

-- the client's request with this number
abbrev pub request_at : ℕ → Kind → List ℕ → Request
request_at number kind body = record { rid = rid_of number; kind = kind; body = body }

-- an event as one of the group, where the client sent so many requests before
abbrev pub event_of : ℕ → WorldEvent → GroupEvent
event_of sent (ClientSend kind body) = group.ClientSend (request_at sent kind body)
event_of sent (Deliver packet) = group.Deliver packet
event_of sent (Tick member) = group.Tick member
event_of sent (Quiet member) = group.Quiet member
event_of sent (Crash member) = group.Crash member
event_of sent (Restart member) = group.Restart member
event_of sent (CrashInTurn member packet kept) = group.CrashInTurn member packet kept
event_of sent Forget = group.Forget

-- how many requests the client sent after an event
abbrev pub sent_after : ℕ → WorldEvent → ℕ
sent_after sent (ClientSend kind body) = sent + 1
sent_after sent _ = sent

-- events as those of the group
abbrev pub events_of : ℕ → List WorldEvent → List GroupEvent
events_of sent [] = []
events_of sent (e ∷ more) = event_of sent e ∷ events_of (sent_after sent e) more

-- the client may send one more request: it has an id left, the request asks for something, and its body isn't too long
pub record MaySend (w : Seen) (kind : Kind) (body : List ℕ) : Type 0 where
  pub left : w.requests < id_limit
  pub asks : is_request kind ≡ true
  pub short : length body ≤ most_body
  pub bytes : AreBytes body

-- the packet with this number was sent to a receiver
pub record WasSentTo (w : Seen) (packet : ℕ) (receiver : Receiver) : Type 0 where
  pub datagram : Datagram
  pub sent : slice_get w.datagrams packet ≡ Some datagram
  pub to : receiver_at w.group datagram.to ≡ receiver

-- a member takes packets while it is up, and the aggregator always does
abbrev pub MayTake : Seen → Receiver → Type 0
MayTake w (Member v) = is_up w v ≡ true
MayTake w Aggregator = Unit {0}
MayTake w Outside = ⊥

-- the packet with this number was sent to somebody who takes it
pub record MayCome (w : Seen) (packet : ℕ) : Type 0 where
  pub receiver : Receiver
  pub sent : WasSentTo w packet receiver
  pub takes : MayTake w receiver

-- a member of the group is down
pub record IsDown (w : Seen) (v : ℕ) : Type 0 where
  pub member : v < length w.group.members
  pub down : is_up w v ≡ false

-- a member may stop within a turn, at a packet that was sent to it or at a tick
pub record MayStop (w : Seen) (v : ℕ) (packet : Option ℕ) : Type 0 where
  pub runs : is_up w v ≡ true
  pub sent : IfSome packet (λ number. WasSentTo w number (Member v))

-- an event may happen where this is seen
abbrev pub MayHappen : Seen → WorldEvent → Type 0
MayHappen w (ClientSend kind body) = MaySend w kind body
MayHappen w (Deliver packet) = MayCome w packet
MayHappen w (Tick member) = is_up w member ≡ true
MayHappen w (Quiet member) = is_up w member ≡ true
MayHappen w (Crash member) = is_up w member ≡ true
MayHappen w (Restart member) = IsDown w member
MayHappen w (CrashInTurn member packet kept) = MayStop w member packet
MayHappen w Forget = IsSome w.group.aggregator

-- it may happen in a world that memory sufficed for
abbrev pub IsPossible : Option Seen → WorldEvent → Type 0
IsPossible (Some w) e = MayHappen w e
IsPossible None e = ⊥
