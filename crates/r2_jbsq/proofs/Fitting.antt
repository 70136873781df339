-- What an event comes to may be done.
use Rattle.std.proofs.Common.{◌≡◌, ◌<◌, ℕ, false, List, length, refl, arith}
use Rattle.std.specs.Prelude.{◌==◌, nat_lt, drop, position, Option, Some, None, Result, Ok, Err}
use Rattle.std.proofs.lemmas.Bool.{ltb-true}
use Rattle.std.proofs.lemmas.List.Quantifiers.{position-Some}
use Rattle.r2_base.specs.declared.addr.Addr.{Addr}
use Rattle.r2_base.specs.declared.event.Event.{Event}
use Rattle.r2_base.specs.declared.event.Event.TheVariants.{Datagram as DatagramEvent, Tick, Quiet}
use Rattle.r2_base.specs.declared.rid.Rid.{Rid}
use Rattle.r2_header.specs.declared.header.Header.{Header}
use Rattle.r2_header.specs.declared.header_fault.HeaderFault.{HeaderFault}
use Rattle.r2_header.specs.declared.packet.Packet.{Packet}
use Rattle.r2_header.specs.declared.packet.Packet.TheVariants as packet
use Rattle.r2_header.specs.Reading.{header_at}
use Rattle.r2_jbsq.specs.declared.routed_request.RoutedRequest.{RoutedRequest}
use Rattle.r2_jbsq.specs.declared.router_setup.RouterSetup.{RouterSetup}
use Rattle.r2_jbsq.specs.declared.decision.Decision.TheVariants as decision
use Rattle.r2_jbsq.specs.Answer.{answered, answered_by, asked, by_packet, placed, received_as, request_of, decision_at, taken}
use Rattle.r2_base.specs.Names.{same_addr}
use Rattle.r2_header.specs.Policy.{jbsq}
use Rattle.r2_jbsq.specs.Limits.{most_waiting}
use Rattle.r2_jbsq.specs.Standing.{Standing, chosen, has, is_known, row_at}
use Rattle.r2_jbsq.specs.State.{Fits}
use Rattle.r2_jbsq.proofs.Choices.{branch}

placed-fits : (n : ℕ) (s : Standing) (request : RoutedRequest) (o : Option ℕ) → is_known request.rid s ≡ false → chosen n s.rows ≡ o → Fits n s (placed request o s.queue)
placed-fits n s request (Some server) new e = record { new = new; chosen = e }
placed-fits n s request None new e =
    branch (Fits n s) (nat_lt (length s.queue) most_waiting) (decision.Queue request) (decision.Reject request.rid)
    (λ f. record { new = new; full = e; room = ltb-true (length s.queue) most_waiting f }) (λ f. tt)

taken-fits : (setup : RouterSetup) (s : Standing) (request : RoutedRequest) → Fits setup.n s (taken setup s request)
taken-fits setup s request =
    branch (Fits setup.n s) (is_known request.rid s) decision.Nothing (placed request (chosen setup.n s.rows) s.queue)
    (λ e. tt) (λ e. placed-fits setup.n s request (chosen setup.n s.rows) e refl)

asked-fits : (setup : RouterSetup) (s : Standing) (from : Addr) (h : Header) (payload : List ℕ) (client : Option Addr) → Fits setup.n s (asked setup s from h payload client)
asked-fits setup s from h payload None = taken-fits setup s (request_of from h payload)
asked-fits setup s from h payload (Some client) = tt

answered_by-fits : (n : ℕ) (s : Standing) (rid : Rid) (o : Option ℕ) → ((server : ℕ) → o ≡ Some server → server < length s.rows) → Fits n s (answered_by s rid o)
answered_by-fits n s rid (Some server) inside =
    branch (Fits n s) (has rid (row_at s server)) (decision.Close rid server) decision.Nothing
    (λ e. record { is_server = inside server refl; is_open = e }) (λ e. tt)
answered_by-fits n s rid None inside = tt

answered-fits : (setup : RouterSetup) (s : Standing) (from : Addr) (id : ℕ) (client : Option Addr) → length s.rows ≡ length setup.servers → Fits setup.n s (answered setup s from id client)
answered-fits setup s from id (Some client) rows =
    answered_by-fits setup.n s (record { id = id; client = client }) (position (same_addr from) setup.servers)
    (λ server e. let p = position-Some (same_addr from) setup.servers server from e in omega (arith, p.0, rows))
answered-fits setup s from id None rows = tt

packet-fits : (setup : RouterSetup) (s : Standing) (from : Addr) (h : Header) (payload : List ℕ) (p : Packet) → length s.rows ≡ length setup.servers → Fits setup.n s (by_packet setup s from h payload p)
packet-fits setup s from h payload packet.Req0 rows = asked-fits setup s from h payload h.client
packet-fits setup s from h payload packet.Feedback rows = answered-fits setup s from h.id h.client rows
packet-fits setup s from h payload packet.Reply rows = tt
packet-fits setup s from h payload packet.ReqRdy rows = tt
packet-fits setup s from h payload packet.ReqN rows = tt
packet-fits setup s from h payload packet.Reject rows = tt
packet-fits setup s from h payload packet.Ordering rows = tt
packet-fits setup s from h payload packet.Recover rows = tt

received-fits : (setup : RouterSetup) (s : Standing) (from : Addr) (bytes : List ℕ) (read : Result (Header × ℕ) HeaderFault) → length s.rows ≡ length setup.servers
    → Fits setup.n s (received_as setup s from bytes read)
received-fits setup s from bytes (Ok (h, size)) rows =
    branch (Fits setup.n s) (h.policy == jbsq) (by_packet setup s from h (drop size bytes) h.packet) decision.Nothing
    (λ e. packet-fits setup s from h (drop size bytes) h.packet rows) (λ e. tt)
received-fits setup s from bytes (Err fault) rows = tt

-- what an event comes to may be done
pub step-fits : (setup : RouterSetup) (s : Standing) (event : Event) → length s.rows ≡ length setup.servers → Fits setup.n s (decision_at setup s event)
step-fits setup s (DatagramEvent d) rows = received-fits setup s d.from d.bytes (header_at d.bytes) rows
step-fits setup s Tick rows = tt
step-fits setup s Quiet rows = tt
