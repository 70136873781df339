-- A router that stands for a history stands, after a step, for the history with the step's marks.
use Rattle.std.proofs.Common.{◌≡◌, ◌<◌, ◌≤◌, ◌+◌, ℕ, Bool, false, cond, List, [], ◌∷◌, ◌++◌, length, refl, sym, subst, ap, ◌∙◌, arith, append_assoc, append-nil}
use Rattle.std.specs.Prelude.{not, count_by, drop, Option, Some, None}
use Rattle.std.specs.List.{filter, list_any}
use Rattle.std.proofs.lemmas.List.Elements.{filter-append}
use Rattle.std.proofs.lemmas.List.Sums.{sum_by-append}
use Rattle.r2_base.specs.declared.event.Event.{Event}
use Rattle.r2_base.specs.declared.rid.Rid.{Rid}
use Rattle.r2_base.specs.declared.datagram.Datagram.{Datagram}
use Rattle.r2_jbsq.specs.declared.routed_request.RoutedRequest.{RoutedRequest}
use Rattle.r2_jbsq.specs.declared.router_setup.RouterSetup.{RouterSetup}
use Rattle.r2_jbsq.specs.declared.decision.Decision.{Decision}
use Rattle.r2_jbsq.specs.declared.decision.Decision.TheVariants as decision
use Rattle.r2_jbsq.specs.Answer.{answer, marks, marks_of, next_marks, sends_of, standing_of, decision_at}
use Rattle.r2_jbsq.specs.History.{Accept, Answer, Forward, Mark, is_accept, is_answer, is_forward, accepted_packet, waiting}
use Rattle.r2_jbsq.specs.Standing.{Standing, chosen, closed, first_of, has, is_for, is_known, next, next_by, put, queued, requests_in, standing_in, without}
use Rattle.r2_jbsq.specs.State.{Fits, RouterState, StandsFor, counted, moved_on, passed_on, carried_out, turned}
use Rattle.r2_jbsq.proofs.Chosen.{chosen-Some}
use Rattle.r2_jbsq.proofs.Fitting.{step-fits}
use Rattle.r2_jbsq.proofs.Histories.{accept-mark, answer-mark, forward-mark, length-rows, new-packet, or-false-left, or-false-right, queue-in, without-requests}
use Rattle.r2_jbsq.proofs.Marks.{names_without, waits-once}
use Rattle.r2_base.proofs.SameNames.{same_rid-same}

-- what is open and waits after a step
abbrev pub moved : ℕ → Standing → Decision → Standing
moved n s decision.Nothing = s
moved n s (decision.Reject rid) = s
moved n s (decision.Queue request) = queued request s
moved n s (decision.Forward request server) = put request server s
moved n s (decision.Close rid server) = moved_on (closed rid server s) (next n (closed rid server s))
moved n s decision.Repeat = s

-- a request that isn't there
without-absent : (rid : Rid) (requests : List RoutedRequest) → has rid requests ≡ false → without rid requests ≡ requests
unfolding without
without-absent rid [] absent = refl
without-absent rid (request ∷ more) absent =
    let apart : is_for rid request ≡ false = or-false-left (is_for rid request) (has rid more) absent in
    let rest : filter (λ r. not (is_for rid r)) more ≡ more = without-absent rid more (or-false-right (is_for rid request) (has rid more) absent) in
    rw (apart, rest) refl

without-last : (request : RoutedRequest) (requests : List RoutedRequest) → has request.rid requests ≡ false → without request.rid (requests ++ request ∷ []) ≡ requests
unfolding without
without-last request requests absent =
    filter-append (λ r. not (is_for request.rid r)) requests (request ∷ [])
    ∙ (ap (λ l. l ++ filter (λ r. not (is_for request.rid r)) (request ∷ [])) (without-absent request.rid requests absent)
    ∙ (rw (same_rid-same request.rid) (append-nil requests)))

-- a new request goes to a server
goes : (servers : ℕ) (history : List Mark) (request : RoutedRequest) (to : ℕ) → is_known request.rid (standing_in servers history) ≡ false → to < servers
    → standing_in servers (history ++ Accept request.rid request.packet ∷ Forward request.rid to ∷ []) ≡ put request to (standing_in servers history)
goes servers history request to new inside =
    let first : List Mark = history ++ Accept request.rid request.packet ∷ [] in
    let accepted : standing_in servers first ≡ queued request (standing_in servers history) = accept-mark servers history request new in
    let absent : has request.rid (standing_in servers history).queue ≡ false = or-false-right (list_any (has request.rid) (standing_in servers history).rows) (has request.rid (standing_in servers history).queue) new in
    let rest : without request.rid (standing_in servers first).queue ≡ (standing_in servers history).queue =
    ap (λ (s : Standing). without request.rid s.queue) accepted ∙ without-last request (standing_in servers history).queue absent in
    let same : accepted_packet first request.rid ≡ request.packet = new-packet history request.rid request.packet in
    ap (standing_in servers) (sym (append_assoc history (Accept request.rid request.packet ∷ []) (Forward request.rid to ∷ [])))
    ∙ (forward-mark servers first request.rid to inside
    ∙ (ap (λ (queue : List RoutedRequest). put (record { rid = request.rid; packet = accepted_packet first request.rid }) to (record { rows = (standing_in servers first).rows; queue = queue })) rest
    ∙ (ap (λ (packet : List ℕ). put (record { rid = request.rid; packet = packet }) to (record { rows = (standing_in servers first).rows; queue = (standing_in servers history).queue })) same
    ∙ ap (λ (s : Standing). put request to (record { rows = s.rows; queue = (standing_in servers history).queue })) accepted)))

-- the first of those that wait: its packet is that of the history, and the others don't have its name
record IsFirst (history : List Mark) (queue : List RoutedRequest) (request : RoutedRequest) : Type 0 where
  same : record { rid = request.rid; packet = accepted_packet history request.rid } ≡ request
  rest : without request.rid queue ≡ drop 1 queue

first-rest : (history : List Mark) (rid : Rid) (names : List Rid) → waiting history ≡ rid ∷ names
    → without rid (requests_in history (rid ∷ names)) ≡ requests_in history names
first-rest history rid names e =
    without-requests rid history (rid ∷ names)
    ∙ (ap (requests_in history) (ap (λ b. cond (not b) (rid ∷ names_without rid names) (names_without rid names)) (same_rid-same rid) ∙ waits-once history rid names e))

first-is : (history : List Mark) (names : List Rid) (request : RoutedRequest) → waiting history ≡ names → first_of (requests_in history names) ≡ Some request
    → IsFirst history (requests_in history names) request
first-is history [] request e first = cc
first-is history (rid ∷ names) request e first =
    let is : record { rid = rid; packet = accepted_packet history rid } ≡ request = cc in
    subst (IsFirst history (requests_in history (rid ∷ names))) is (record { same = refl; rest = first-rest history rid names e })

next-goes : (servers : ℕ) (history : List Mark) (f : Option RoutedRequest) (c : Option ℕ) → first_of (standing_in servers history).queue ≡ f
    → ((to : ℕ) → c ≡ Some to → to < servers)
    → standing_in servers (history ++ next_marks (next_by f c)) ≡ moved_on (standing_in servers history) (next_by f c)
next-goes servers history None c first inside = ap (standing_in servers) (append-nil history)
next-goes servers history (Some request) None first inside = ap (standing_in servers) (append-nil history)
next-goes servers history (Some request) (Some to) first inside =
    let is : IsFirst history (standing_in servers history).queue request =
    subst (λ (queue : List RoutedRequest). first_of queue ≡ Some request → IsFirst history queue request) (sym (queue-in servers history)) (first-is history (waiting history) request refl) first in
    forward-mark servers history request.rid to (inside to refl)
    ∙ (ap (λ (r : RoutedRequest). put r to (record { rows = (standing_in servers history).rows; queue = without request.rid (standing_in servers history).queue })) is.same
    ∙ ap (λ (queue : List RoutedRequest). put request to (record { rows = (standing_in servers history).rows; queue = queue })) is.rest)

-- the request that may go on does
next-stands : (n servers : ℕ) (history : List Mark)
    → standing_in servers (history ++ next_marks (next n (standing_in servers history))) ≡ moved_on (standing_in servers history) (next n (standing_in servers history))
unfolding next
next-stands n servers history =
    next-goes servers history (first_of (standing_in servers history).queue) (chosen n (standing_in servers history).rows) refl
    (λ to e. let c = chosen-Some n (standing_in servers history).rows to e in omega (arith, c.inside, length-rows servers history))

-- a server is done with a request
done : (n servers : ℕ) (history : List Mark) (rid : Rid) (from : ℕ) → from < servers
    → standing_in servers (history ++ Answer rid from ∷ next_marks (next n (closed rid from (standing_in servers history))))
    ≡ moved_on (closed rid from (standing_in servers history)) (next n (closed rid from (standing_in servers history)))
done n servers history rid from inside =
    let after : List Mark = history ++ Answer rid from ∷ [] in
    let is : standing_in servers after ≡ closed rid from (standing_in servers history) = answer-mark servers history rid from inside in
    ap (standing_in servers) (sym (append_assoc history (Answer rid from ∷ []) (next_marks (next n (closed rid from (standing_in servers history))))))
    ∙ subst (λ (s : Standing). standing_in servers (after ++ next_marks (next n s)) ≡ moved_on s (next n s)) is (next-stands n servers after)

-- what is open and waits after a step
pub step-stands : (n servers : ℕ) (history : List Mark) (s : Decision) → Fits n (standing_in servers history) s
    → standing_in servers (history ++ marks_of n (standing_in servers history) s) ≡ moved n (standing_in servers history) s
step-stands n servers history decision.Nothing w = ap (standing_in servers) (append-nil history)
step-stands n servers history (decision.Reject rid) w = ap (standing_in servers) (append-nil history)
step-stands n servers history decision.Repeat w = ap (standing_in servers) (append-nil history)
step-stands n servers history (decision.Queue request) w = accept-mark servers history request w.new
step-stands n servers history (decision.Forward request to) w =
    let c = chosen-Some n (standing_in servers history).rows to w.chosen in
    goes servers history request to w.new (omega (arith, c.inside, length-rows servers history))
step-stands n servers history (decision.Close rid from) w =
    done n servers history rid from (omega (arith, w.is_server, length-rows servers history))

-- a count of marks, with more of them after those
more-marks : (p : Mark → Bool) (count : ℕ) (history more : List Mark) → count ≡ count_by p history → count + count_by p more ≡ count_by p (history ++ more)
more-marks p count history more e = ap (λ c. c + count_by p more) e ∙ sym (sum_by-append (λ m. cond (p m) 1 0) history more)

passed_on-standing : (r : RouterState) (o : Option (RoutedRequest × ℕ)) → (passed_on r o).standing ≡ moved_on r.standing o
passed_on-standing r None = refl
passed_on-standing r (Some (request, to)) = refl

passed_on-setup : (r : RouterState) (o : Option (RoutedRequest × ℕ)) → (passed_on r o).setup ≡ r.setup
passed_on-setup r None = refl
passed_on-setup r (Some (request, to)) = refl

pub passed_on-forwarded : (r : RouterState) (o : Option (RoutedRequest × ℕ)) → (passed_on r o).forwarded ≡ r.forwarded + count_by is_forward (next_marks o)
passed_on-forwarded r None = omega arith
passed_on-forwarded r (Some (request, to)) = refl

passed_on-accepted : (r : RouterState) (rid : Rid) (from : ℕ) (o : Option (RoutedRequest × ℕ))
    → (passed_on r o).accepted ≡ r.accepted + count_by is_accept (Answer rid from ∷ next_marks o)
passed_on-accepted r rid from None = omega arith
passed_on-accepted r rid from (Some (request, to)) = omega arith

passed_on-answered : (r : RouterState) (o : Option (RoutedRequest × ℕ)) → (passed_on r o).answered ≡ r.answered
passed_on-answered r None = refl
passed_on-answered r (Some (request, to)) = refl

one-answer : (rid : Rid) (from : ℕ) (o : Option (RoutedRequest × ℕ)) → count_by is_answer (Answer rid from ∷ next_marks o) ≡ 1
one-answer rid from None = refl
one-answer rid from (Some (request, to)) = refl

-- a router where a server was done with a request
freed : RouterState → Rid → ℕ → RouterState
freed r rid from = record r { standing = closed rid from r.standing; answered = r.answered + 1 }

carried_out-standing : (r : RouterState) (s : Decision) → (carried_out r s).standing ≡ moved r.setup.n r.standing s
unfolding freed
carried_out-standing r decision.Nothing = refl
carried_out-standing r (decision.Reject rid) = refl
carried_out-standing r decision.Repeat = refl
carried_out-standing r (decision.Queue request) = refl
carried_out-standing r (decision.Forward request to) = refl
carried_out-standing r (decision.Close rid from) = passed_on-standing (freed r rid from) (next r.setup.n (closed rid from r.standing))

pub carried_out-accepted : (r : RouterState) (s : Decision) → (carried_out r s).accepted ≡ r.accepted + count_by is_accept (marks_of r.setup.n r.standing s)
unfolding freed
carried_out-accepted r decision.Nothing = omega arith
carried_out-accepted r (decision.Reject rid) = omega arith
carried_out-accepted r decision.Repeat = omega arith
carried_out-accepted r (decision.Queue request) = refl
carried_out-accepted r (decision.Forward request to) = refl
carried_out-accepted r (decision.Close rid from) = passed_on-accepted (freed r rid from) rid from (next r.setup.n (closed rid from r.standing))

pub carried_out-forwarded : (r : RouterState) (s : Decision) → (carried_out r s).forwarded ≡ r.forwarded + count_by is_forward (marks_of r.setup.n r.standing s)
unfolding freed
carried_out-forwarded r decision.Nothing = omega arith
carried_out-forwarded r (decision.Reject rid) = omega arith
carried_out-forwarded r decision.Repeat = omega arith
carried_out-forwarded r (decision.Queue request) = omega arith
carried_out-forwarded r (decision.Forward request to) = refl
carried_out-forwarded r (decision.Close rid from) = passed_on-forwarded (freed r rid from) (next r.setup.n (closed rid from r.standing))

pub carried_out-answered : (r : RouterState) (s : Decision) → (carried_out r s).answered ≡ r.answered + count_by is_answer (marks_of r.setup.n r.standing s)
unfolding freed
carried_out-answered r decision.Nothing = omega arith
carried_out-answered r (decision.Reject rid) = omega arith
carried_out-answered r decision.Repeat = omega arith
carried_out-answered r (decision.Queue request) = omega arith
carried_out-answered r (decision.Forward request to) = omega arith
carried_out-answered r (decision.Close rid from) =
    let o : Option (RoutedRequest × ℕ) = next r.setup.n (closed rid from r.standing) in
    passed_on-answered (freed r rid from) o ∙ ap (λ n. r.answered + n) (sym (one-answer rid from o))

carried_out-setup : (r : RouterState) (s : Decision) → (carried_out r s).setup ≡ r.setup
unfolding freed
carried_out-setup r decision.Nothing = refl
carried_out-setup r (decision.Reject rid) = refl
carried_out-setup r decision.Repeat = refl
carried_out-setup r (decision.Queue request) = refl
carried_out-setup r (decision.Forward request to) = refl
carried_out-setup r (decision.Close rid from) = passed_on-setup (freed r rid from) (next r.setup.n (closed rid from r.standing))

-- the router and its history, after a step
pub carried_out-stands : (r : RouterState) (history : List Mark) (s : Decision) → StandsFor r history → Fits r.setup.n r.standing s
    → StandsFor (counted (carried_out r s)) (history ++ marks_of r.setup.n r.standing s)
carried_out-stands r history s k w =
    let now : moved r.setup.n r.standing s ≡ standing_of r.setup (history ++ marks_of r.setup.n r.standing s) =
    subst (λ (now : Standing). Fits r.setup.n now s → moved r.setup.n now s ≡ standing_of r.setup (history ++ marks_of r.setup.n now s)) (sym k.standing)
    (λ w'. sym (step-stands r.setup.n (length r.setup.servers) history s w')) w in
    record {
      standing = carried_out-standing r s ∙ (now ∙ ap (λ (setup : RouterSetup). standing_of setup (history ++ marks_of r.setup.n r.standing s)) (sym (carried_out-setup r s)));
      accepted = carried_out-accepted r s ∙ more-marks is_accept r.accepted history (marks_of r.setup.n r.standing s) k.accepted;
      forwarded = carried_out-forwarded r s ∙ more-marks is_forward r.forwarded history (marks_of r.setup.n r.standing s) k.forwarded;
      answered = carried_out-answered r s ∙ more-marks is_answer r.answered history (marks_of r.setup.n r.standing s) k.answered;
    }

-- its address, servers and n stay
pub turned-setup : (r : RouterState) (event : Event) → (turned r event).setup ≡ r.setup
unfolding turned
turned-setup r event = carried_out-setup r (decision_at r.setup r.standing event)

passed_on-turns : (r : RouterState) (o : Option (RoutedRequest × ℕ)) → (passed_on r o).turns ≡ r.turns
passed_on-turns r None = refl
passed_on-turns r (Some (request, to)) = refl

carried_out-turns : (r : RouterState) (s : Decision) → (carried_out r s).turns ≡ r.turns
unfolding freed
carried_out-turns r decision.Nothing = refl
carried_out-turns r (decision.Reject rid) = refl
carried_out-turns r decision.Repeat = refl
carried_out-turns r (decision.Queue request) = refl
carried_out-turns r (decision.Forward request to) = refl
carried_out-turns r (decision.Close rid from) = passed_on-turns (freed r rid from) (next r.setup.n (closed rid from r.standing))

-- it is one turn more
pub turned-turns : (r : RouterState) (event : Event) → (turned r event).turns ≡ r.turns + 1
unfolding turned
turned-turns r event = ap (λ n. n + 1) (carried_out-turns r (decision_at r.setup r.standing event))

-- as many rows as servers
pub rows-stand : (r : RouterState) (history : List Mark) → StandsFor r history → length r.standing.rows ≡ length r.setup.servers
rows-stand r history k = ap (λ (s : Standing). length s.rows) k.standing ∙ length-rows (length r.setup.servers) history

-- after an event
pub turned-stands : (r : RouterState) (history : List Mark) (event : Event) → StandsFor r history → StandsFor (turned r event) (history ++ marks r.setup history event)
unfolding turned marks
turned-stands r history event k =
    subst (λ (s : Standing). StandsFor (counted (carried_out r (decision_at r.setup r.standing event))) (history ++ marks_of r.setup.n s (decision_at r.setup s event))) k.standing
    (carried_out-stands r history (decision_at r.setup r.standing event) k (step-fits r.setup r.standing event (rows-stand r history k)))

-- and what is sent
pub turned-sends : (r : RouterState) (history : List Mark) (event : Event) → StandsFor r history
    → sends_of r.setup r.standing (decision_at r.setup r.standing event) ≡ answer r.setup history event
unfolding answer
turned-sends r history event k = ap (λ (s : Standing). sends_of r.setup s (decision_at r.setup s event)) k.standing

-- what is sent for a step that an event comes to
pub sends-answer : (r : RouterState) (history : List Mark) (event : Event) (sends : List Datagram) (s : Decision) → s ≡ decision_at r.setup r.standing event
    → sends ≡ sends_of r.setup r.standing s → StandsFor r history → sends ≡ answer r.setup history event
sends-answer r history event sends s is same k = same ∙ (ap (sends_of r.setup r.standing) is ∙ turned-sends r history event k)

-- what it makes of the router
pub step-leaves : (r now : RouterState) (history : List Mark) (event : Event) (s : Decision) → s ≡ decision_at r.setup r.standing event
    → now ≡ counted (carried_out r s) → StandsFor r history → StandsFor now (history ++ marks r.setup history event)
unfolding turned
step-leaves r now history event s is same k =
    subst (λ (t : RouterState). StandsFor t (history ++ marks r.setup history event)) (sym (same ∙ ap (λ (step : Decision). counted (carried_out r step)) is)) (turned-stands r history event k)

pub setup-stays : (r now : RouterState) (s : Decision) → now ≡ counted (carried_out r s) → now.setup ≡ r.setup
setup-stays r now s same = ap (λ (t : RouterState). t.setup) same ∙ carried_out-setup r s

pub one-turn : (r now : RouterState) (s : Decision) (n : ℕ) → now ≡ counted (carried_out r s) → r.turns ≤ n → now.turns ≤ n + 1
one-turn r now s n same most = omega (arith, ap (λ (t : RouterState). t.turns) same, carried_out-turns r s, most)
