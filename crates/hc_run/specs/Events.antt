-- The events of a group that runs, and which of them are possible.
use Rattle.std.specs.Prelude.{◌≡◌, ℕ, ◌<◌, ◌≤◌, Bool, true, false, List, length, slice_get, Option, Some, IsSome, IfSome}
use Rattle.r2_base.specs.declared.datagram.Datagram.{Datagram}
use Rattle.r2_base.specs.Entry.{is_request}
use Rattle.r2_base.specs.Limits.{most_body}
use Rattle.r2_base.specs.Names.{FitsRid}
use Rattle.r2_base.specs.Numbers.{AreBytes}
use Rattle.hc_rules.specs.Message.{Request}
use Rattle.hc_rules.specs.Requests.{IsKnown}
use Rattle.hc_run.specs.Group.{Group, Receiver, Member, Aggregator, Outside, receiver_at}
use Rattle.hc_run.specs.State.{GroupState, is_up}

-- what happens. v is a member's number
pub data GroupEvent : Type 0 where
  -- a client sends a request for the first time
  ClientSend : Request → GroupEvent
  -- the datagram with this number comes where it was sent to
  Deliver : (number : ℕ) → GroupEvent
  -- a tick goes by at v, or nothing comes
  Tick : (v : ℕ) → GroupEvent
  Quiet : (v : ℕ) → GroupEvent
  -- v stops between two turns, and begins again with its journal
  Crash : (v : ℕ) → GroupEvent
  Restart : (v : ℕ) → GroupEvent
  -- v stops within a turn, at the datagram with this number or at a tick, before anything is sent; the turn's record is kept or lost
  CrashInTurn : (v : ℕ) → (packet : Option ℕ) → (kept : Bool) → GroupEvent
  -- the aggregator begins anew
  Forget : GroupEvent
  -- v has come to the end of its link: it applies what is pending, so many times, and stops
  End : (v times : ℕ) → GroupEvent

-- a client may send a request for the first time: under an id that is new, of a kind that asks for something, with a body that isn't
-- too long
pub record IsNew (table : List Request) (q : Request) : Type 0 where
  pub fits : FitsRid q.rid
  pub fresh : IsKnown table q.rid → ⊥
  pub asks : is_request q.kind ≡ true
  pub short : length q.body ≤ most_body
  pub bytes : AreBytes q.body

-- the datagram with this number was sent to a receiver
pub record WasSentTo (g : Group) (s : GroupState) (number : ℕ) (receiver : Receiver) : Type 0 where
  pub datagram : Datagram
  pub sent : slice_get s.datagrams number ≡ Some datagram
  pub to : receiver_at g datagram.to ≡ receiver

-- a receiver takes datagrams: a member while it is up, and the aggregator
abbrev pub CanReceive : GroupState → Receiver → Type 0
CanReceive s (Member v) = is_up s v ≡ true
CanReceive s Aggregator = Unit {0}
CanReceive s Outside = ⊥

-- the datagram with this number was sent to somebody who takes it, at whatever time and however often it came already
pub record IsDeliverable (g : Group) (s : GroupState) (number : ℕ) : Type 0 where
  pub receiver : Receiver
  pub sent : WasSentTo g s number receiver
  pub takes : CanReceive s receiver

-- a member is down
pub record IsDown (g : Group) (s : GroupState) (v : ℕ) : Type 0 where
  pub member : v < length g.members
  pub down : is_up s v ≡ false

-- a member may stop within a turn at a datagram that was sent to it, or at a tick
pub record MayCrashInTurn (g : Group) (s : GroupState) (v : ℕ) (packet : Option ℕ) : Type 0 where
  pub runs : is_up s v ≡ true
  pub sent : IfSome packet (λ number. WasSentTo g s number (Member v))

-- a member may end that is up, after it applied what is pending once at least
pub record MayEnd (s : GroupState) (v times : ℕ) : Type 0 where
  pub runs : is_up s v ≡ true
  pub once : 1 ≤ times

-- an event may happen in a state
abbrev pub IsPossible : Group → GroupState → GroupEvent → Type 0
IsPossible g s (ClientSend q) = IsNew s.table q
IsPossible g s (Deliver number) = IsDeliverable g s number
IsPossible g s (Tick v) = is_up s v ≡ true
IsPossible g s (Quiet v) = is_up s v ≡ true
IsPossible g s (Crash v) = is_up s v ≡ true
IsPossible g s (Restart v) = IsDown g s v
IsPossible g s (CrashInTurn v packet kept) = MayCrashInTurn g s v packet
IsPossible g s Forget = IsSome g.aggregator
IsPossible g s (End v times) = MayEnd s v times
