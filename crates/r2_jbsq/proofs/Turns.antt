-- What one turn makes of a router: its counts, and what it stands for.
use Rattle.std.proofs.Common.{◌≡◌, ◌<◌, ◌≤◌, ◌+◌, ◌*◌, ℕ, true, false, List, [], ◌∷◌, ◌++◌, length, refl, sym, subst, ap, ◌∙◌, arith}
use Rattle.std.specs.Prelude.{count_by, sum_by, Option, Some, None}
use Rattle.std.proofs.lemmas.List.Sums.{sum_by-le}
use Rattle.r2_base.specs.declared.addr.Addr.{Addr}
use Rattle.r2_base.specs.declared.datagram.Datagram.{Datagram}
use Rattle.r2_base.specs.declared.event.Event.{Event}
use Rattle.r2_base.specs.declared.event.Event.TheVariants.{Datagram as DatagramEvent, Tick, Quiet}
use Rattle.r2_base.specs.declared.rid.Rid.{Rid}
use Rattle.r2_jbsq.specs.declared.decision.Decision.{Decision}
use Rattle.r2_jbsq.specs.declared.decision.Decision.TheVariants as decision
use Rattle.r2_jbsq.specs.declared.routed_request.RoutedRequest.{RoutedRequest}
use Rattle.r2_jbsq.specs.declared.router_setup.RouterSetup.{RouterSetup}
use Rattle.r2_jbsq.specs.Answer.{answer, decision_at, forward, marks, next_marks, next_sends, reject, sends_of}
use Rattle.r2_jbsq.specs.History.{Mark, is_forward}
use Rattle.r2_jbsq.specs.Packets.{BringsRequest, HoldsRequests, answers, asks, is_tick, refusals_among, requests_among}
use Rattle.r2_jbsq.specs.Laws.{TicksChangeNoCount}
use Rattle.r2_jbsq.specs.Limits.{most_servers}
use Rattle.r2_jbsq.specs.Standing.{Standing, closed, next}
use Rattle.r2_jbsq.specs.State.{IsSound, RouterState, StandsFor, carried_out, counted, passed_on, slots_of, turned}
use Rattle.r2_jbsq.specs.Turns.{CountsPackets, GrowsByOne, IsTurn, sent}
use Rattle.r2_jbsq.proofs.Packets.{ComesFrom, decision-comes, next-requests, no-refusal, no-request, one-request, reject-no_request, repeats-few, repeats-requests}
use Rattle.r2_jbsq.proofs.Steps.{passed_on-forwarded, turned-sends, turned-setup, turned-stands, turned-turns}

-- counts to which at most one was added
by-one : (r r' : RouterState) (a f b : ℕ) → a ≤ 1 → f ≤ 1 → b ≤ 1
    → r'.accepted ≡ r.accepted + a → r'.forwarded ≡ r.forwarded + f → r'.answered ≡ r.answered + b → GrowsByOne r r'
by-one r r' a f b one one' one'' accepted forwarded answered =
    record {
      accepted = omega arith;
      one_accepted = omega arith;
      forwarded = omega arith;
      one_forwarded = omega arith;
      answered = omega arith;
      one_answered = omega arith;
    }

-- a server was done with a request, and this one goes on
passed_on-grows : (r : RouterState) (rid : Rid) (from : ℕ) (o : Option (RoutedRequest × ℕ))
    → GrowsByOne r (counted (passed_on (record r { standing = closed rid from r.standing; answered = r.answered + 1 }) o))
passed_on-grows r rid from None = by-one r _ 0 0 1 (omega arith) (omega arith) (omega arith) (omega arith) (omega arith) refl
passed_on-grows r rid from (Some (request, to)) = by-one r _ 0 1 1 (omega arith) (omega arith) (omega arith) (omega arith) refl refl

carried_out-grows : (r : RouterState) (d : Decision) → GrowsByOne r (counted (carried_out r d))
carried_out-grows r decision.Nothing = by-one r _ 0 0 0 (omega arith) (omega arith) (omega arith) (omega arith) (omega arith) (omega arith)
carried_out-grows r (decision.Reject rid) = by-one r _ 0 0 0 (omega arith) (omega arith) (omega arith) (omega arith) (omega arith) (omega arith)
carried_out-grows r decision.Repeat = by-one r _ 0 0 0 (omega arith) (omega arith) (omega arith) (omega arith) (omega arith) (omega arith)
carried_out-grows r (decision.Queue request) = by-one r _ 1 0 0 (omega arith) (omega arith) (omega arith) refl (omega arith) (omega arith)
carried_out-grows r (decision.Forward request to) = by-one r _ 1 1 0 (omega arith) (omega arith) (omega arith) refl refl (omega arith)
carried_out-grows r (decision.Close rid from) = passed_on-grows r rid from (next r.setup.n (closed rid from r.standing))

pub decision-grows : (r r' : RouterState) (d : Decision) → r' ≡ counted (carried_out r d) → GrowsByOne r r'
decision-grows r r' d becomes = subst (GrowsByOne r) (sym becomes) (carried_out-grows r d)

-- no more requests are open than there are slots
pub within-slots : (r : RouterState) → IsSound r → r.forwarded ≤ r.answered + slots_of r.setup
within-slots r k =
    let most : sum_by length r.standing.rows ≤ length r.standing.rows * r.setup.n = sum_by-le length r.setup.n r.standing.rows k.within in
    let same : length r.standing.rows * r.setup.n ≡ length r.setup.servers * r.setup.n = ap (λ (rows : ℕ). rows * r.setup.n) k.rows in
    omega (arith, k.forwarded, most, same)

-- of a turn alone, with no invariant at hand
pub turn_stands : (r r' : RouterState) (event : Event) (sends : List Datagram) (history : List Mark)
    → IsTurn r event sends r' → StandsFor r history → StandsFor r' (history ++ marks r.setup history event)
turn_stands r r' event sends history turn k =
    subst (λ (s : RouterState). StandsFor s (history ++ marks r.setup history event)) (sym turn.becomes) (turned-stands r history event k)

pub turn_sends : (r r' : RouterState) (event : Event) (sends : List Datagram) (history : List Mark)
    → IsTurn r event sends r' → StandsFor r history → sends ≡ answer r.setup history event
unfolding sent
turn_sends r r' event sends history turn k = turn.sends ∙ turned-sends r history event k

pub turn_setup : (r r' : RouterState) (event : Event) (sends : List Datagram) → IsTurn r event sends r' → r'.setup ≡ r.setup
turn_setup r r' event sends turn = ap (λ (s : RouterState). s.setup) turn.becomes ∙ turned-setup r event

pub turn_turns : (r r' : RouterState) (event : Event) (sends : List Datagram) → IsTurn r event sends r' → r'.turns ≡ r.turns + 1
turn_turns r r' event sends turn = ap (λ (s : RouterState). s.turns) turn.becomes ∙ turned-turns r event

pub turn_grows : (r r' : RouterState) (event : Event) (sends : List Datagram) → IsTurn r event sends r' → GrowsByOne r r'
unfolding turned
turn_grows r r' event sends turn = decision-grows r r' _ turn.becomes

-- an event that brings something is no tick
not-tick : (event : Event) → asks event ≡ true → is_tick event ≡ true → ⊥
not-tick (DatagramEvent d) e t = cc
not-tick Tick e t = cc
not-tick Quiet e t = cc

no-tick : (servers : List Addr) (event : Event) → answers servers event ≡ true → is_tick event ≡ true → ⊥
no-tick servers (DatagramEvent d) e t = cc
no-tick servers Tick e t = cc
no-tick servers Quiet e t = cc

tick-is : (event : Event) → event ≡ Tick → is_tick event ≡ false → ⊥
tick-is event e t = let is : is_tick event ≡ true = ap is_tick e in cc

passed_on-accepted : (r : RouterState) (o : Option (RoutedRequest × ℕ)) → (passed_on r o).accepted ≡ r.accepted
passed_on-accepted r None = refl
passed_on-accepted r (Some (request, to)) = refl

passed_on-answered : (r : RouterState) (o : Option (RoutedRequest × ℕ)) → (passed_on r o).answered ≡ r.answered
passed_on-answered r None = refl
passed_on-answered r (Some (request, to)) = refl

-- what a tick sends
record SendsAgain (setup : RouterSetup) (forwards : ℕ) (given : List Datagram) : Type 0 where
  none : forwards ≡ 0
  repeats : requests_among given ≡ length given
  at_most_one : length given ≤ length setup.servers

-- at most one request is passed on
next-few : (setup : RouterSetup) (o : Option (RoutedRequest × ℕ)) → length (next_sends setup o) ≤ 1
next-few setup None = omega arith
next-few setup (Some (request, to)) = omega arith

counts : (r r' : RouterState) (event : Event) (given : List Datagram) (a f b : ℕ)
    → r'.accepted ≡ r.accepted + a → r'.forwarded ≡ r.forwarded + f → r'.answered ≡ r.answered + b
    → (0 < a → asks event ≡ true) → (0 < a → refusals_among given ≡ 0) → (0 < b → answers r.setup.servers event ≡ true)
    → (is_tick event ≡ false → length given ≤ 1) → (is_tick event ≡ false → requests_among given ≡ f) → (is_tick event ≡ true → SendsAgain r.setup f given) → CountsPackets r event given r'
counts r r' event given a f b accepted forwarded answered asked taken told few sends again =
    record {
      asked = λ h. asked (omega (arith, h, accepted));
      taken = λ h. taken (omega (arith, h, accepted));
      answered = λ h. told (omega (arith, h, answered));
      one = few;
      forwarded = λ t. forwarded ∙ ap (λ (n : ℕ). r.forwarded + n) (sym (sends t));
      stays = λ t. let none = (again t).none in omega (arith, none, forwarded);
      repeats = λ t. (again t).repeats;
      at_most_one = λ t. (again t).at_most_one;
    }

-- nothing is sent
quiet : (setup : RouterSetup) → SendsAgain setup 0 []
quiet setup = record { none = refl; repeats = refl; at_most_one = omega arith }

decision-counts : (r : RouterState) (event : Event) (d : Decision) → ComesFrom r.setup event d → HoldsRequests r.standing → BringsRequest d
    → CountsPackets r event (sends_of r.setup r.standing d) (counted (carried_out r d))
decision-counts r event decision.Nothing w k e =
    counts r _ event [] 0 0 0 (omega arith) (omega arith) (omega arith) (λ h. absurd (omega (arith, h))) (λ h. refl) (λ h. absurd (omega (arith, h))) (λ t. omega arith) (λ t. refl) (λ t. quiet r.setup)
decision-counts r event (decision.Reject rid) w k e =
    counts r _ event (reject r.setup.me rid ∷ []) 0 0 0 (omega arith) (omega arith) (omega arith) (λ h. w) (λ h. absurd (omega (arith, h))) (λ h. absurd (omega (arith, h)))
    (λ t. omega arith) (λ t. no-request (reject r.setup.me rid) (reject-no_request r.setup.me rid)) (λ t. absurd (not-tick event w t))
decision-counts r event (decision.Queue request) w k e =
    counts r _ event [] 1 0 0 refl (omega arith) (omega arith) (λ h. w) (λ h. refl) (λ h. absurd (omega (arith, h))) (λ t. omega arith) (λ t. refl) (λ t. quiet r.setup)
decision-counts r event (decision.Forward request to) w k e =
    counts r _ event (forward r.setup request to ∷ []) 1 1 0 refl refl (omega arith) (λ h. w) (λ h. no-refusal (forward r.setup request to) e) (λ h. absurd (omega (arith, h)))
    (λ t. omega arith) (λ t. one-request (forward r.setup request to) e) (λ t. absurd (not-tick event w t))
decision-counts r event (decision.Close rid from) w k e =
    let o : Option (RoutedRequest × ℕ) = next r.setup.n (closed rid from r.standing) in
    let freed : RouterState = record r { standing = closed rid from r.standing; answered = r.answered + 1 } in
    counts r _ event (sends_of r.setup r.standing (decision.Close rid from)) 0 (count_by is_forward (next_marks o)) 1
    (passed_on-accepted freed o ∙ omega arith) (passed_on-forwarded freed o) (passed_on-answered freed o)
    (λ h. absurd (omega (arith, h))) (λ h. absurd (omega (arith, h))) (λ h. w)
    (λ t. next-few r.setup o) (λ t. next-requests r.setup (closed rid from r.standing) k.queue) (λ t. absurd (no-tick r.setup.servers event w t))
decision-counts r event decision.Repeat w k e =
    counts r _ event (sends_of r.setup r.standing decision.Repeat) 0 0 0 (omega arith) (omega arith) (omega arith)
    (λ h. absurd (omega (arith, h))) (λ h. absurd (omega (arith, h))) (λ h. absurd (omega (arith, h)))
    (λ t. absurd (tick-is event w t)) (λ t. absurd (tick-is event w t))
    (λ t. record { none = refl; repeats = repeats-requests r.setup.me r.setup.servers r.standing.rows k.rows; at_most_one = repeats-few r.setup.me r.setup.servers r.standing.rows })

-- the counts of a turn go with what it took and sent
pub turn-counts : (r r' : RouterState) (event : Event) (given : List Datagram) (d : Decision) → d ≡ decision_at r.setup r.standing event
    → r' ≡ counted (carried_out r d) → given ≡ sends_of r.setup r.standing d → HoldsRequests r.standing → BringsRequest d → CountsPackets r event given r'
turn-counts r r' event given d is becomes sends k e =
    let w : ComesFrom r.setup event d = subst (ComesFrom r.setup event) (sym is) (decision-comes r.setup r.standing event) in
    subst (λ (s : RouterState). CountsPackets r event given s) (sym becomes)
    (subst (λ (l : List Datagram). CountsPackets r event l (counted (carried_out r d))) (sym sends) (decision-counts r event d w k e))

-- no more datagrams are sent than there may be servers

decision-few : (setup : RouterSetup) (s : Standing) (d : Decision) → length setup.servers ≤ most_servers → length (sends_of setup s d) ≤ most_servers
decision-few setup s decision.Nothing few = omega arith
decision-few setup s (decision.Reject rid) few = omega arith
decision-few setup s (decision.Queue request) few = omega arith
decision-few setup s (decision.Forward request to) few = omega arith
decision-few setup s (decision.Close rid from) few = let one = next-few setup (next setup.n (closed rid from s)) in omega (arith, one)
decision-few setup s decision.Repeat few = let most = repeats-few setup.me setup.servers s.rows in omega (arith, most)

pub turn-few : (setup : RouterSetup) (s : Standing) (given : List Datagram) (d : Decision) → given ≡ sends_of setup s d → length setup.servers ≤ most_servers → length given ≤ most_servers
turn-few setup s given d sends few = subst (λ (l : List Datagram). length l ≤ most_servers) (sym sends) (decision-few setup s d few)

-- at a tick the oldest are sent again, and where nothing came nothing happens
pub ticks-change-no-count : TicksChangeNoCount
unfolding turned sent
ticks-change-no-count r =
    record {
      tick = refl;
      again = repeats-few r.setup.me r.setup.servers r.standing.rows;
      quiet = refl;
      silent = refl;
    }
