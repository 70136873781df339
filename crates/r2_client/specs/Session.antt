-- A session's calls and events: what it becomes, what it sends, and how its call ends.
use Rattle.std.specs.Prelude.{ℕ, ◌+◌, ◌==◌, ◌&&◌, Bool, true, false, nat_le, nat_lt, is_some, if◌then◌else◌, List, [], length, drop, Option, Some, None, Result, Ok, Err}
use Rattle.r2_base.specs.declared.datagram.Datagram.{Datagram}
use Rattle.r2_base.specs.declared.event.Event.{Event}
use Rattle.r2_base.specs.declared.event.Event.TheVariants.{Datagram as DatagramEvent, Tick, Quiet}
use Rattle.r2_base.specs.Limits.{id_limit, most_body}
use Rattle.r2_header.specs.declared.header.Header.{Header}
use Rattle.r2_header.specs.declared.header_fault.HeaderFault.{HeaderFault}
use Rattle.r2_header.specs.declared.packet.Packet.{Packet}
use Rattle.r2_header.specs.declared.packet.Packet.TheVariants.{Reject, Reply as ReplyPacket, ReqRdy}
use Rattle.r2_header.specs.Reading.{header_at}
use Rattle.r2_frag.specs.declared.added.Added.{Added}
use Rattle.r2_frag.specs.declared.added.Added.TheVariants.{Bad, Dropped, More, Repeat, Whole}
use Rattle.r2_frag.specs.declared.key.Key.{Key}
use Rattle.r2_frag.specs.Assembly.{added}
use Rattle.r2_frag.specs.Keys.{key_at}
use Rattle.r2_client.specs.declared.begin_fault.BeginFault.{BeginFault}
use Rattle.r2_client.specs.declared.begin_fault.BeginFault.TheVariants.{IdsUsed, Outstanding, TooLong}
use Rattle.r2_client.specs.declared.call_end.CallEnd.{CallEnd}
use Rattle.r2_client.specs.declared.call_end.CallEnd.TheVariants.{Rejected, Reply, TimedOut}
use Rattle.r2_client.specs.declared.client_step.ClientStep.{ClientStep}
use Rattle.r2_client.specs.declared.open_call.OpenCall.{OpenCall}
use Rattle.r2_client.specs.Sendings.{later_parts_to, sending}
use Rattle.r2_client.specs.State.{SessionState}

-- why a call with this body can't begin: another is open, or the body is too long, or each id has been used
abbrev pub refusal : SessionState → List ℕ → Option BeginFault
refusal s body =
    if is_some s.open_call then Some Outstanding
    else (if nat_lt most_body (length body) then Some TooLong
    else (if nat_le id_limit s.next then Some IdsUsed else None))

-- a call as it begins, with the next id
abbrev pub new_call : SessionState → ℕ → List ℕ → OpenCall
new_call s policy body = record { id = s.next; policy = policy; body = body; ticks = 0; sendings = 1 }

-- a session whose call began
unfoldable pub began : SessionState → ℕ → List ℕ → SessionState
began s policy body = record s { next = s.next + 1; open_call = Some (new_call s policy body) }

-- a session after an event, and what it does at it
pub record Stepped : Type 0 where
  pub session : SessionState
  pub step : ClientStep

-- nothing happens
abbrev pub unchanged : SessionState → Stepped
unchanged s = record { session = s; step = record { sends = []; end = None } }

-- something is sent, and the call goes on
abbrev pub sent : SessionState → List Datagram → Stepped
sent s sends = record { session = s; step = record { sends = sends; end = None } }

-- the call ends
abbrev pub ended : SessionState → CallEnd → Stepped
ended s end = record { session = record s { open_call = None }; step = record { sends = []; end = Some end } }

-- a reply that is whole ends the call
abbrev pub by_answer : SessionState → Added → Stepped
by_answer s (Whole body) = ended s (Reply body)
by_answer s More = unchanged s
by_answer s Repeat = unchanged s
by_answer s (Bad why) = unchanged s
by_answer s (Dropped key) = unchanged s

-- a part of a reply is added to what came of it
unfoldable pub part_added : SessionState → Header → List ℕ → Key → Stepped
part_added s h payload key =
    let r = added s.unfinished key h payload in
    by_answer (record s { unfinished = r.1 }) r.0

-- a packet under the key that its datagram has
abbrev pub reply_part : SessionState → Header → List ℕ → Option Key → Stepped
reply_part s h payload (Some key) = part_added s h payload key
reply_part s h payload None = unchanged s

-- a packet for the open call, by its type: a server calls for the other parts of the request (which it may under policies 0
-- and 1 only), a part of the reply comes, or the request is rejected
abbrev pub by_packet : SessionState → OpenCall → Datagram → Header → List ℕ → Packet → Stepped
by_packet s call d h payload ReqRdy = sent s (later_parts_to s.me call d.from)
by_packet s call d h payload ReplyPacket = reply_part s h payload (key_at d.from d.to h)
by_packet s call d h payload Reject = ended s Rejected
by_packet s call d h payload _ = unchanged s

-- whether a session takes packets of this type
abbrev pub is_taken : Packet → Bool
is_taken ReqRdy = true
is_taken ReplyPacket = true
is_taken Reject = true
is_taken _ = false

-- whether a packet is for this call
abbrev pub is_for : OpenCall → Header → Bool
is_for call h = (h.id == call.id) && (h.policy == call.policy)

-- a datagram that reads so, while this call is open
abbrev pub received_as : SessionState → Datagram → OpenCall → Result (Header × ℕ) HeaderFault → Stepped
received_as s d call (Ok (h, size)) = if is_for call h then by_packet s call d h (drop size d.bytes) h.packet else unchanged s
received_as s d call (Err fault) = unchanged s

-- a datagram, while this call is open or none is
abbrev pub received_by : SessionState → Datagram → Option OpenCall → Stepped
received_by s d (Some call) = received_as s d call (header_at d.bytes)
received_by s d None = unchanged s

-- a datagram comes
unfoldable pub received : SessionState → Datagram → Stepped
received s d = received_by s d s.open_call

-- a request is sent again
unfoldable pub sent_again : SessionState → OpenCall → Stepped
sent_again s call =
    sent (record s { open_call = Some (record call { ticks = 0; sendings = call.sendings + 1 }) }) (sending s.me s.targets call)

-- a tick while this call is open or none is: where the session has waited for so many ticks since the last sending, the
-- request is sent again, or its tries are used and the call ends
abbrev pub ticked_by : SessionState → Option OpenCall → Stepped
ticked_by s (Some call) =
    if nat_lt (call.ticks + 1) s.wait then unchanged (record s { open_call = Some (record call { ticks = call.ticks + 1 }) })
    else (if nat_lt call.sendings s.tries then sent_again s call else ended s TimedOut)
ticked_by s None = unchanged s

-- a tick comes
unfoldable pub ticked : SessionState → Stepped
ticked s = ticked_by s s.open_call

-- whether bytes that read so are a packet of the open call at which a session does something: a call for the other parts of
-- the request, a part of the reply or a rejection
abbrev pub concerns : Option OpenCall → Result (Header × ℕ) HeaderFault → Bool
concerns (Some call) (Ok (h, size)) = is_for call h && is_taken h.packet
concerns (Some call) (Err fault) = false
concerns None read = false

-- whether the next tick sends the request of the open call again
abbrev pub sends_again : SessionState → Option OpenCall → Bool
sends_again s (Some call) = nat_le s.wait (call.ticks + 1) && nat_lt call.sendings s.tries
sends_again s None = false

-- what an event comes to
abbrev pub stepped : SessionState → Event → Stepped
stepped s (DatagramEvent d) = received s d
stepped s Tick = ticked s
stepped s Quiet = unchanged s
