-- What an event comes to at a router with a history: the marks that it adds, and the datagrams that are sent.
use Rattle.std.specs.Prelude.{ℕ, ◌==◌, nat_lt, if◌then◌else◌, List, [], ◌∷◌, ◌++◌, length, drop, position, slice_index_or, Option, Some, None, Result, Ok, Err}
use Rattle.std.specs.List.{flat_map, zip}
use Rattle.r2_base.specs.declared.addr.Addr.{Addr}
use Rattle.r2_base.specs.declared.datagram.Datagram.{Datagram}
use Rattle.r2_base.specs.declared.event.Event.{Event}
use Rattle.r2_base.specs.declared.event.Event.TheVariants.{Datagram as DatagramEvent, Tick, Quiet}
use Rattle.r2_base.specs.declared.rid.Rid.{Rid}
use Rattle.r2_header.specs.declared.header.Header.{Header}
use Rattle.r2_header.specs.declared.header_fault.HeaderFault.{HeaderFault}
use Rattle.r2_header.specs.declared.packet.Packet.{Packet}
use Rattle.r2_header.specs.declared.packet.Packet.TheVariants.{Feedback, Reject as RejectPacket, Req0}
use Rattle.r2_header.specs.Header.{one_part_header, spelling}
use Rattle.r2_header.specs.Notices.{notice}
use Rattle.r2_header.specs.Policy.{jbsq}
use Rattle.r2_header.specs.Reading.{header_at}
use Rattle.r2_jbsq.specs.declared.routed_request.RoutedRequest.{RoutedRequest}
use Rattle.r2_jbsq.specs.declared.router_setup.RouterSetup.{RouterSetup}
use Rattle.r2_jbsq.specs.declared.decision.Decision.{Decision}
use Rattle.r2_jbsq.specs.declared.decision.Decision.TheVariants as decision
use Rattle.r2_jbsq.specs.History.{Mark, Accept, Forward, Answer}
use Rattle.r2_base.specs.Names.{same_addr}
use Rattle.r2_jbsq.specs.Limits.{most_waiting}
use Rattle.r2_jbsq.specs.Standing.{Standing, chosen, closed, has, is_known, next, row_at, standing_in}

-- a packet as it goes to a server: it holds the client's address, and all else is alike
unfoldable pub forwarded_packet : Header → Addr → List ℕ → List ℕ
forwarded_packet h client payload = spelling (record h { client = Some client }) ++ payload

-- a new request: it goes to the chosen server, or waits where there is none and fewer wait than may, or is refused
abbrev pub placed : RoutedRequest → Option ℕ → List RoutedRequest → Decision
placed request (Some server) queue = decision.Forward request server
placed request None queue = if nat_lt (length queue) most_waiting then decision.Queue request else decision.Reject request.rid

-- the request in a client's packet
abbrev pub request_of : Addr → Header → List ℕ → RoutedRequest
request_of client h payload = record { rid = record { id = h.id; client = client }; packet = forwarded_packet h client payload }

-- a request: a repeat changes nothing
abbrev pub taken : RouterSetup → Standing → RoutedRequest → Decision
taken setup s request =
    if is_known request.rid s then decision.Nothing else placed request (chosen setup.n s.rows) s.queue

-- a request by a client, whose packet must not carry an address
abbrev pub asked : RouterSetup → Standing → Addr → Header → List ℕ → Option Addr → Decision
asked setup s from h payload None = taken setup s (request_of from h payload)
asked setup s from h payload (Some client) = decision.Nothing

-- feedback on a request from a server, where the sender is one: the request must be open at that server
abbrev pub answered_by : Standing → Rid → Option ℕ → Decision
answered_by s rid (Some server) = if has rid (row_at s server) then decision.Close rid server else decision.Nothing
answered_by s rid None = decision.Nothing

-- feedback from an address, on a request of the client that the packet carries
abbrev pub answered : RouterSetup → Standing → Addr → ℕ → Option Addr → Decision
answered setup s from id (Some client) =
    answered_by s (record { id = id; client = client }) (position (same_addr from) setup.servers)
answered setup s from id None = decision.Nothing

-- a packet from an address, by its type
abbrev pub by_packet : RouterSetup → Standing → Addr → Header → List ℕ → Packet → Decision
by_packet setup s from h payload Req0 = asked setup s from h payload h.client
by_packet setup s from h payload Feedback = answered setup s from h.id h.client
by_packet setup s from h payload _ = decision.Nothing

-- a datagram whose bytes read so: only packets under the policy JBSQ are the router's
abbrev pub received_as : RouterSetup → Standing → Addr → List ℕ → Result (Header × ℕ) HeaderFault → Decision
received_as setup s from bytes (Ok (h, size)) =
    if h.policy == jbsq then by_packet setup s from h (drop size bytes) h.packet else decision.Nothing
received_as setup s from bytes (Err fault) = decision.Nothing

-- what an event comes to
abbrev pub decision_at : RouterSetup → Standing → Event → Decision
decision_at setup s (DatagramEvent d) = received_as setup s d.from d.bytes (header_at d.bytes)
decision_at setup s Tick = decision.Repeat
decision_at setup s Quiet = decision.Nothing

-- the mark of a request that waited and goes to a server
abbrev pub next_marks : Option (RoutedRequest × ℕ) → List Mark
next_marks (Some (request, server)) = Forward request.rid server ∷ []
next_marks None = []

-- the marks that a step adds
abbrev pub marks_of : ℕ → Standing → Decision → List Mark
marks_of n s decision.Nothing = []
marks_of n s (decision.Reject rid) = []
marks_of n s (decision.Queue request) = Accept request.rid request.packet ∷ []
marks_of n s (decision.Forward request server) = Accept request.rid request.packet ∷ Forward request.rid server ∷ []
marks_of n s (decision.Close rid server) = Answer rid server ∷ next_marks (next n (closed rid server s))
marks_of n s decision.Repeat = []

-- a request in a datagram to a server
abbrev pub to_server : Addr → Addr → RoutedRequest → Datagram
to_server me server request = record { from = me; to = server; bytes = request.packet }

-- the address of a server by its place in the list
abbrev pub address_of : RouterSetup → ℕ → Addr
address_of setup server = slice_index_or setup.servers server setup.me

abbrev pub forward : RouterSetup → RoutedRequest → ℕ → Datagram
forward setup request server = to_server setup.me (address_of setup server) request

-- a request is refused
abbrev pub reject : Addr → Rid → Datagram
reject me rid = notice me rid.client (one_part_header RejectPacket jbsq rid.id None)

-- a request that waited goes to a server
abbrev pub next_sends : RouterSetup → Option (RoutedRequest × ℕ) → List Datagram
next_sends setup (Some (request, server)) = forward setup request server ∷ []
next_sends setup None = []

-- a server's oldest open request once more
abbrev pub oldest_to : Addr → Addr → List RoutedRequest → List Datagram
oldest_to me server [] = []
oldest_to me server (request ∷ more) = to_server me server request ∷ []

-- each server in turn gets its oldest open request again
unfoldable pub repeats : Addr → List Addr → List (List RoutedRequest) → List Datagram
repeats me servers rows = flat_map (λ pair. oldest_to me pair.0 pair.1) (zip servers rows)

-- the datagrams of a step
abbrev pub sends_of : RouterSetup → Standing → Decision → List Datagram
sends_of setup s decision.Nothing = []
sends_of setup s (decision.Reject rid) = reject setup.me rid ∷ []
sends_of setup s (decision.Queue request) = []
sends_of setup s (decision.Forward request server) = forward setup request server ∷ []
sends_of setup s (decision.Close rid server) = next_sends setup (next setup.n (closed rid server s))
sends_of setup s decision.Repeat = repeats setup.me setup.servers s.rows

-- what is open and waits at a router with this history
abbrev pub standing_of : RouterSetup → List Mark → Standing
standing_of setup history = standing_in (length setup.servers) history

-- the marks that an event adds to a history
unfoldable pub marks : RouterSetup → List Mark → Event → List Mark
marks setup history event =
    let s = standing_of setup history in marks_of setup.n s (decision_at setup s event)

-- the datagrams that are sent for an event
unfoldable pub answer : RouterSetup → List Mark → Event → List Datagram
answer setup history event =
    let s = standing_of setup history in sends_of setup s (decision_at setup s event)

-- the history after these events, one after another
unfoldable pub history_after : RouterSetup → List Mark → List Event → List Mark
history_after setup history [] = history
history_after setup history (event ∷ more) = history_after setup (history ++ marks setup history event) more
