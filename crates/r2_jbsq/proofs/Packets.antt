-- Which packets a router keeps and sends, and what its events bring.
use Rattle.std.proofs.Common.{◌≡◌, ◌<◌, ◌≤◌, ◌+◌, ℕ, Bool, true, false, cond, List, [], ◌∷◌, ◌++◌, length, refl, subst, ap, ◌∙◌, arith}
use Rattle.std.specs.Prelude.{◌==◌, ◌&&◌, if◌then◌else◌, nat_lt, not, drop, count_by, position, is_some, Option, Some, None, Result, Ok, Err}
use Rattle.std.specs.List.{All, list_any}
use Rattle.std.proofs.lemmas.List.{length-set}
use Rattle.std.proofs.lemmas.List.Elements.{All-filter, All-get_or, All-head, All-nil, All-push, All-replicate, All-set, All-tail}
use Rattle.std.proofs.lemmas.List.Folds.{list_any_at}
use Rattle.std.proofs.lemmas.List.Quantifiers.{position-Some}
use Rattle.std.proofs.lemmas.List.Sums.{sum_by-cons}
use Rattle.r2_base.specs.declared.addr.Addr.{Addr}
use Rattle.r2_base.specs.declared.datagram.Datagram.{Datagram}
use Rattle.r2_base.specs.declared.event.Event.{Event}
use Rattle.r2_base.specs.declared.event.Event.TheVariants.{Datagram as DatagramEvent, Tick, Quiet}
use Rattle.r2_base.specs.declared.rid.Rid.{Rid}
use Rattle.r2_base.specs.Names.{same_addr}
use Rattle.r2_header.specs.declared.header.Header.{Header}
use Rattle.r2_header.specs.declared.header_fault.HeaderFault.{HeaderFault}
use Rattle.r2_header.specs.declared.packet.Packet.{Packet}
use Rattle.r2_header.specs.declared.packet.Packet.TheVariants as packet
use Rattle.r2_header.specs.Header.{IsValid, kind_bytes, one_part_header, spelling}
use Rattle.r2_header.specs.Laws.{FitsClient, FitsHeader}
use Rattle.r2_header.specs.Policy.{jbsq}
use Rattle.r2_header.specs.Reading.{fields_at, header_at, ok_unless}
use Rattle.r2_header.proofs.Sound.{spelling_is_read}
use Rattle.r2_jbsq.specs.declared.decision.Decision.{Decision}
use Rattle.r2_jbsq.specs.declared.decision.Decision.TheVariants as decision
use Rattle.r2_jbsq.specs.declared.routed_request.RoutedRequest.{RoutedRequest}
use Rattle.r2_jbsq.specs.declared.router_setup.RouterSetup.{RouterSetup}
use Rattle.r2_jbsq.specs.Answer.{answered, answered_by, asked, by_packet, decision_at, forward, forwarded_packet, next_marks, next_sends, placed, received_as, reject, repeats, request_of, taken, to_server}
use Rattle.r2_jbsq.specs.History.{is_forward}
use Rattle.r2_jbsq.specs.Laws.{OthersAreIgnored}
use Rattle.r2_jbsq.specs.Limits.{most_waiting}
use Rattle.r2_jbsq.specs.Packets.{AreRequests, HoldsRequests, answers, asks, has_no_client, is_feedback, is_refusal, is_reject, is_req0, is_request, reads_as, refusals_among, requests_among}
use Rattle.r2_jbsq.specs.Standing.{Standing, chosen, closed, first_gone, first_of, gone, has, is_for, is_known, next, next_by, nothing_open, put, queued, row_at, without}
use Rattle.r2_jbsq.proofs.Choices.{branch}

-- a request's packet, as it goes to a server, reads as a request
pub forwarded-request : (h : Header) (client : Addr) (payload : List ℕ) → IsValid h → FitsHeader h → FitsClient (Some client) → h.packet ≡ packet.Req0 → h.policy ≡ jbsq
    → is_request (forwarded_packet h client payload) ≡ true
unfolding forwarded_packet
forwarded-request h client payload valid fits fits' is_req0 under =
    let extended : Header = record h { client = Some client } in
    let valid' : IsValid extended =
    record {
      policy = rw (is_req0, under) (record { low = omega arith; high = omega arith });
      id = valid.id;
      number = valid.number;
      last = valid.last;
    } in
    let read : header_at (spelling extended ++ payload) ≡ Ok (extended, length (spelling extended)) =
    spelling_is_read extended (spelling extended) payload (record { id = fits.id; client = fits' }) (record { valid = valid'; same = refl }) in
    rw (read, is_req0, under) refl

-- a header that isn't of the type, whatever the checks say of it
read-otherwise : (test : Packet → Bool) (fault : Option HeaderFault) (h : Header) (n : ℕ) → test h.packet ≡ false → reads_as test (ok_unless fault (h, n)) ≡ false
read-otherwise test (Some fault) h n e = refl
read-otherwise test None h n e = rw e refl

-- a refusal is no request
reject-packet : (id : ℕ) → (fields_at (spelling (one_part_header packet.Reject jbsq id None))).packet ≡ packet.Reject
unfolding fields_at spelling kind_bytes
reject-packet id = refl

pub reject-no_request : (me : Addr) (rid : Rid) → is_request (reject me rid).bytes ≡ false
unfolding header_at
reject-no_request me rid =
    read-otherwise is_req0 _ (fields_at (spelling (one_part_header packet.Reject jbsq rid.id None))) _ (rw (reject-packet rid.id) refl)

-- a request is no refusal
no-both : (p : Packet) (b : Bool) → (is_req0 p && b) ≡ true → (is_reject p && b) ≡ false
no-both packet.Req0 b e = refl
no-both packet.Feedback b e = refl
no-both packet.Reply b e = refl
no-both packet.ReqRdy b e = refl
no-both packet.ReqN b e = refl
no-both packet.Ordering b e = refl
no-both packet.Recover b e = refl
no-both packet.Reject b e = cc

read-once : (read : Result (Header × ℕ) HeaderFault) → reads_as is_req0 read ≡ true → reads_as is_reject read ≡ false
read-once (Ok (h, n)) e = no-both h.packet (h.policy == jbsq) e
read-once (Err fault) e = refl

pub request-no_refusal : (bytes : List ℕ) → is_request bytes ≡ true → is_refusal bytes ≡ false
request-no_refusal bytes e = read-once (header_at bytes) e

-- one datagram more
requests-cons : (d : Datagram) (more : List Datagram) (b : Bool) → is_request d.bytes ≡ b → requests_among (d ∷ more) ≡ cond b 1 0 + requests_among more
requests-cons d more b e = sum_by-cons (λ (d : Datagram). cond (is_request d.bytes) 1 0) d more ∙ ap (λ (c : Bool). cond c 1 0 + requests_among more) e

refusals-cons : (d : Datagram) (more : List Datagram) (b : Bool) → is_refusal d.bytes ≡ b → refusals_among (d ∷ more) ≡ cond b 1 0 + refusals_among more
refusals-cons d more b e = sum_by-cons (λ (d : Datagram). cond (is_refusal d.bytes) 1 0) d more ∙ ap (λ (c : Bool). cond c 1 0 + refusals_among more) e

pub one-request : (d : Datagram) → is_request d.bytes ≡ true → requests_among (d ∷ []) ≡ 1
one-request d e = requests-cons d [] true e

pub no-request : (d : Datagram) → is_request d.bytes ≡ false → requests_among (d ∷ []) ≡ 0
no-request d e = requests-cons d [] false e

pub no-refusal : (d : Datagram) → is_request d.bytes ≡ true → refusals_among (d ∷ []) ≡ 0
no-refusal d e = refusals-cons d [] false (request-no_refusal d.bytes e)

-- what is kept: the packets of the rows and of the queue
empty-requests : AreRequests []
empty-requests = All-nil (λ (r : RoutedRequest). is_request r.packet ≡ true)

row-requests : (s : Standing) (server : ℕ) → server < length s.rows → HoldsRequests s → AreRequests (row_at s server)
row-requests s server inside k = All-get_or AreRequests s.rows server [] inside k.rows

pub begin-requests : (servers : ℕ) → HoldsRequests (nothing_open servers)
begin-requests servers = record { rows = All-replicate AreRequests servers [] empty-requests; queue = empty-requests }

pub queued-requests : (s : Standing) (request : RoutedRequest) → HoldsRequests s → is_request request.packet ≡ true → HoldsRequests (queued request s)
queued-requests s request k e = record { rows = k.rows; queue = All-push (λ (r : RoutedRequest). is_request r.packet ≡ true) s.queue request k.queue e }

pub put-requests : (s : Standing) (request : RoutedRequest) (server : ℕ) → server < length s.rows → HoldsRequests s → is_request request.packet ≡ true → HoldsRequests (put request server s)
put-requests s request server inside k e =
    record {
      rows = All-set AreRequests s.rows server (row_at s server ++ request ∷ [])
          (All-push (λ (r : RoutedRequest). is_request r.packet ≡ true) (row_at s server) request (row-requests s server inside k) e) k.rows;
      queue = k.queue;
    }

pub closed-requests : (s : Standing) (rid : Rid) (server : ℕ) → server < length s.rows → HoldsRequests s → HoldsRequests (closed rid server s)
unfolding without
closed-requests s rid server inside k =
    record {
      rows = All-set AreRequests s.rows server (without rid (row_at s server))
          (All-filter (λ (r : RoutedRequest). not (is_for rid r)) (λ (r : RoutedRequest). is_request r.packet ≡ true) (row_at s server) (row-requests s server inside k)) k.rows;
      queue = k.queue;
    }

pub closed-inside : (s : Standing) (rid : Rid) (server : ℕ) → server < length s.rows → server < length (closed rid server s).rows
closed-inside s rid server inside = omega (arith, length-set s.rows server (without rid (row_at s server)))

gone-requests : (rows : List (List RoutedRequest)) (queue : List RoutedRequest) (server : ℕ) → server < length rows → HoldsRequests (record { rows = rows; queue = queue })
    → HoldsRequests (gone (first_of queue) server (record { rows = rows; queue = queue }))
gone-requests rows [] server inside k = k
gone-requests rows (request ∷ more) server inside k =
    put-requests (record { rows = rows; queue = more }) request server inside
    (record { rows = k.rows; queue = All-tail (λ (r : RoutedRequest). is_request r.packet ≡ true) request more k.queue })
    (All-head (λ (r : RoutedRequest). is_request r.packet ≡ true) request more k.queue)

pub first-gone-requests : (s : Standing) (server : ℕ) → server < length s.rows → HoldsRequests s → HoldsRequests (first_gone server s)
first-gone-requests s server inside k = gone-requests s.rows s.queue server inside k

-- at a tick requests alone are sent, at most one to each server
pub repeats-requests : (me : Addr) (servers : List Addr) (rows : List (List RoutedRequest)) → All AreRequests rows
    → requests_among (repeats me servers rows) ≡ length (repeats me servers rows)
unfolding repeats
repeats-requests me [] rows k = refl
repeats-requests me (server ∷ servers) [] k = refl
repeats-requests me (server ∷ servers) ([] ∷ rows) k = repeats-requests me servers rows (All-tail AreRequests [] rows k)
repeats-requests me (server ∷ servers) ((request ∷ more) ∷ rows) k =
    let here : is_request request.packet ≡ true = All-head (λ (r : RoutedRequest). is_request r.packet ≡ true) request more (All-head AreRequests (request ∷ more) rows k) in
    let rest : requests_among (repeats me servers rows) ≡ length (repeats me servers rows) = repeats-requests me servers rows (All-tail AreRequests (request ∷ more) rows k) in
    let both : requests_among (to_server me server request ∷ repeats me servers rows) ≡ 1 + requests_among (repeats me servers rows) =
    requests-cons (to_server me server request) (repeats me servers rows) true here in
    omega (arith, both, rest)

pub repeats-few : (me : Addr) (servers : List Addr) (rows : List (List RoutedRequest)) → length (repeats me servers rows) ≤ length servers
unfolding repeats
repeats-few me [] rows = omega arith
repeats-few me (server ∷ servers) [] = omega arith
repeats-few me (server ∷ servers) ([] ∷ rows) = let rest = repeats-few me servers rows in omega (arith, rest)
repeats-few me (server ∷ servers) ((request ∷ more) ∷ rows) = let rest = repeats-few me servers rows in omega (arith, rest)

-- a request that goes on is one that waited
first-request : (queue : List RoutedRequest) (request : RoutedRequest) → first_of queue ≡ Some request → AreRequests queue → is_request request.packet ≡ true
first-request [] request e k = cc
first-request (first ∷ more) request e k =
    let is : first ≡ request = cc in
    subst (λ (r : RoutedRequest). is_request r.packet ≡ true) is (All-head (λ (r : RoutedRequest). is_request r.packet ≡ true) first more k)

next-by : (setup : RouterSetup) (f : Option RoutedRequest) (c : Option ℕ) → ((request : RoutedRequest) → f ≡ Some request → is_request request.packet ≡ true)
    → requests_among (next_sends setup (next_by f c)) ≡ count_by is_forward (next_marks (next_by f c))
next-by setup None c k = refl
next-by setup (Some request) None k = refl
next-by setup (Some request) (Some to) k = one-request (forward setup request to) (k request refl)

pub next-requests : (setup : RouterSetup) (s : Standing) → AreRequests s.queue
    → requests_among (next_sends setup (next setup.n s)) ≡ count_by is_forward (next_marks (next setup.n s))
unfolding next
next-requests setup s k = next-by setup (first_of s.queue) (chosen setup.n s.rows) (λ request e. first-request s.queue request e k)

-- what an event brings, by what it comes to
abbrev pub ComesFrom : RouterSetup → Event → Decision → Type 0
ComesFrom setup event (decision.Reject rid) = asks event ≡ true
ComesFrom setup event (decision.Queue request) = asks event ≡ true
ComesFrom setup event (decision.Forward request server) = asks event ≡ true
ComesFrom setup event (decision.Close rid server) = answers setup.servers event ≡ true
ComesFrom setup event decision.Repeat = event ≡ Tick
ComesFrom setup event _ = Unit {0}

placed-comes : (setup : RouterSetup) (event : Event) (request : RoutedRequest) (o : Option ℕ) (queue : List RoutedRequest) → asks event ≡ true → ComesFrom setup event (placed request o queue)
placed-comes setup event request (Some server) queue e = e
placed-comes setup event request None queue e =
    branch (ComesFrom setup event) (nat_lt (length queue) most_waiting) (decision.Queue request) (decision.Reject request.rid) (λ f. e) (λ f. e)

taken-comes : (setup : RouterSetup) (event : Event) (s : Standing) (request : RoutedRequest) → asks event ≡ true → ComesFrom setup event (taken setup s request)
taken-comes setup event s request e =
    branch (ComesFrom setup event) (is_known request.rid s) decision.Nothing (placed request (chosen setup.n s.rows) s.queue)
    (λ f. tt) (λ f. placed-comes setup event request (chosen setup.n s.rows) s.queue e)

asked-comes : (setup : RouterSetup) (event : Event) (s : Standing) (from : Addr) (h : Header) (payload : List ℕ) (client : Option Addr) → asks event ≡ not (is_some client)
    → ComesFrom setup event (asked setup s from h payload client)
asked-comes setup event s from h payload None e = taken-comes setup event s (request_of from h payload) e
asked-comes setup event s from h payload (Some client) e = tt

answered_by-comes : (setup : RouterSetup) (event : Event) (s : Standing) (rid : Rid) (o : Option ℕ) → ((server : ℕ) → o ≡ Some server → answers setup.servers event ≡ true)
    → ComesFrom setup event (answered_by s rid o)
answered_by-comes setup event s rid (Some server) e =
    branch (ComesFrom setup event) (has rid (row_at s server)) (decision.Close rid server) decision.Nothing (λ f. e server refl) (λ f. tt)
answered_by-comes setup event s rid None e = tt

answered-comes : (setup : RouterSetup) (event : Event) (s : Standing) (from : Addr) (id : ℕ) (client : Option Addr) → answers setup.servers event ≡ list_any (same_addr from) setup.servers
    → ComesFrom setup event (answered setup s from id client)
answered-comes setup event s from id (Some client) e =
    answered_by-comes setup event s (record { id = id; client = client }) (position (same_addr from) setup.servers)
    (λ server f. let p = position-Some (same_addr from) setup.servers server from f in e ∙ list_any_at (same_addr from) setup.servers server from p.0 p.1)
answered-comes setup event s from id None e = tt

packet-comes : (setup : RouterSetup) (event : Event) (s : Standing) (from : Addr) (h : Header) (payload : List ℕ) (p : Packet)
    → asks event ≡ (is_req0 p && not (is_some h.client)) → answers setup.servers event ≡ (is_feedback p && list_any (same_addr from) setup.servers)
    → ComesFrom setup event (by_packet setup s from h payload p)
packet-comes setup event s from h payload packet.Req0 e f = asked-comes setup event s from h payload h.client e
packet-comes setup event s from h payload packet.Feedback e f = answered-comes setup event s from h.id h.client f
packet-comes setup event s from h payload packet.Reply e f = tt
packet-comes setup event s from h payload packet.ReqRdy e f = tt
packet-comes setup event s from h payload packet.ReqN e f = tt
packet-comes setup event s from h payload packet.Reject e f = tt
packet-comes setup event s from h payload packet.Ordering e f = tt
packet-comes setup event s from h payload packet.Recover e f = tt

-- under the policy JBSQ the test of it falls away
under-policy : (a b c : Bool) → b ≡ true → ((a && b) && c) ≡ (a && c)
under-policy true b c e = rw e refl
under-policy false b c e = refl

received-comes : (setup : RouterSetup) (event : Event) (s : Standing) (from : Addr) (bytes : List ℕ) (read : Result (Header × ℕ) HeaderFault)
    → asks event ≡ (reads_as is_req0 read && has_no_client read) → answers setup.servers event ≡ (reads_as is_feedback read && list_any (same_addr from) setup.servers)
    → ComesFrom setup event (received_as setup s from bytes read)
received-comes setup event s from bytes (Ok (h, size)) e f =
    branch (ComesFrom setup event) (h.policy == jbsq) (by_packet setup s from h (drop size bytes) h.packet) decision.Nothing
    (λ under. packet-comes setup event s from h (drop size bytes) h.packet (e ∙ under-policy (is_req0 h.packet) (h.policy == jbsq) (not (is_some h.client)) under)
    (f ∙ under-policy (is_feedback h.packet) (h.policy == jbsq) (list_any (same_addr from) setup.servers) under))
    (λ other. tt)
received-comes setup event s from bytes (Err fault) e f = tt

pub decision-comes : (setup : RouterSetup) (s : Standing) (event : Event) → ComesFrom setup event (decision_at setup s event)
decision-comes setup s (DatagramEvent d) = received-comes setup (DatagramEvent d) s d.from d.bytes (header_at d.bytes) refl refl
decision-comes setup s Tick = refl
decision-comes setup s Quiet = tt

-- a packet that is neither a request nor feedback, or under another policy, comes to nothing
other-packet : (setup : RouterSetup) (s : Standing) (from : Addr) (h : Header) (payload : List ℕ) (p : Packet) (b : Bool)
    → (is_req0 p && b) ≡ false → (is_feedback p && b) ≡ false → (if b then by_packet setup s from h payload p else decision.Nothing) ≡ decision.Nothing
other-packet setup s from h payload p false e f = refl
other-packet setup s from h payload packet.Req0 true e f = cc
other-packet setup s from h payload packet.Feedback true e f = cc
other-packet setup s from h payload packet.Reply true e f = refl
other-packet setup s from h payload packet.ReqRdy true e f = refl
other-packet setup s from h payload packet.ReqN true e f = refl
other-packet setup s from h payload packet.Reject true e f = refl
other-packet setup s from h payload packet.Ordering true e f = refl
other-packet setup s from h payload packet.Recover true e f = refl

other-read : (setup : RouterSetup) (s : Standing) (from : Addr) (bytes : List ℕ) (read : Result (Header × ℕ) HeaderFault)
    → reads_as is_req0 read ≡ false → reads_as is_feedback read ≡ false → received_as setup s from bytes read ≡ decision.Nothing
other-read setup s from bytes (Ok (h, size)) e f = other-packet setup s from h (drop size bytes) h.packet (h.policy == jbsq) e f
other-read setup s from bytes (Err fault) e f = refl

pub others-ignored : OthersAreIgnored
others-ignored r =
    record {
      packets = λ d e f. other-read r.setup r.standing d.from d.bytes (header_at d.bytes) e f;
      quiet = refl;
    }
