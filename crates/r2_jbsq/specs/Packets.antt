-- What kind of packet bytes are, and what an event brings.
use Rattle.std.specs.Prelude.{◌≡◌, ℕ, ◌==◌, ◌&&◌, Bool, true, false, not, List, Result, Ok, Err, count_by, is_some}
use Rattle.std.specs.List.{All, list_any}
use Rattle.r2_base.specs.declared.addr.Addr.{Addr}
use Rattle.r2_base.specs.declared.datagram.Datagram.{Datagram}
use Rattle.r2_base.specs.declared.event.Event.{Event}
use Rattle.r2_base.specs.declared.event.Event.TheVariants.{Datagram as DatagramEvent, Tick, Quiet}
use Rattle.r2_base.specs.Names.{same_addr}
use Rattle.r2_header.specs.declared.header.Header.{Header}
use Rattle.r2_header.specs.declared.header_fault.HeaderFault.{HeaderFault}
use Rattle.r2_header.specs.declared.packet.Packet.{Packet}
use Rattle.r2_header.specs.declared.packet.Packet.TheVariants.{Feedback, Reject, Req0}
use Rattle.r2_header.specs.Policy.{jbsq}
use Rattle.r2_header.specs.Reading.{header_at}
use Rattle.r2_jbsq.specs.declared.decision.Decision.{Decision}
use Rattle.r2_jbsq.specs.declared.decision.Decision.TheVariants as decision
use Rattle.r2_jbsq.specs.declared.routed_request.RoutedRequest.{RoutedRequest}
use Rattle.r2_jbsq.specs.Standing.{Standing}

-- the types of packets that a router takes or sends
abbrev pub is_req0 : Packet → Bool
is_req0 Req0 = true
is_req0 _ = false

abbrev pub is_feedback : Packet → Bool
is_feedback Feedback = true
is_feedback _ = false

abbrev pub is_reject : Packet → Bool
is_reject Reject = true
is_reject _ = false

-- what was read is a header of such a type under the policy JBSQ
abbrev pub reads_as : (Packet → Bool) → Result (Header × ℕ) HeaderFault → Bool
reads_as test (Ok (h, size)) = test h.packet && (h.policy == jbsq)
reads_as test (Err fault) = false

-- what was read is a header without a client's address
abbrev pub has_no_client : Result (Header × ℕ) HeaderFault → Bool
has_no_client (Ok (h, size)) = not (is_some h.client)
has_no_client (Err fault) = false

-- whether bytes are a request, or a refusal, under the policy JBSQ
abbrev pub is_request : List ℕ → Bool
is_request bytes = reads_as is_req0 (header_at bytes)

abbrev pub is_refusal : List ℕ → Bool
is_refusal bytes = reads_as is_reject (header_at bytes)

-- how many of these datagrams are requests, or refusals
abbrev pub requests_among : List Datagram → ℕ
requests_among sends = count_by (λ d. is_request d.bytes) sends

abbrev pub refusals_among : List Datagram → ℕ
refusals_among sends = count_by (λ d. is_refusal d.bytes) sends

-- whether an event brings a client's request: one under the policy JBSQ without a client's address
abbrev pub asks : Event → Bool
asks (DatagramEvent d) = reads_as is_req0 (header_at d.bytes) && has_no_client (header_at d.bytes)
asks Tick = false
asks Quiet = false

-- whether an event brings feedback from one of these servers under the policy JBSQ
abbrev pub answers : List Addr → Event → Bool
answers servers (DatagramEvent d) = reads_as is_feedback (header_at d.bytes) && list_any (same_addr d.from) servers
answers servers Tick = false
answers servers Quiet = false

abbrev pub is_tick : Event → Bool
is_tick (DatagramEvent d) = false
is_tick Tick = true
is_tick Quiet = false

-- each of these is kept with a packet that is a request
abbrev pub AreRequests : List RoutedRequest → Type 0
AreRequests requests = All (λ request. is_request request.packet ≡ true) requests

-- each packet that is open or waits is a request
pub record HoldsRequests (s : Standing) : Type 0 where
  pub rows : All AreRequests s.rows
  pub queue : AreRequests s.queue

-- a new request comes with a packet that is one
abbrev pub BringsRequest : Decision → Type 0
BringsRequest (decision.Queue request) = is_request request.packet ≡ true
BringsRequest (decision.Forward request server) = is_request request.packet ≡ true
BringsRequest _ = Unit {0}
