-- How many request ids were used.
use Rattle.std.proofs.Common.{◌≡◌, ℕ, ◌+◌, ◌<◌, ◌≤◌, nat_le, nat_lt, true, false, Bool, if◌then◌else◌, is_some, List, [], ◌∷◌, length, Option, Some, None, refl, ap, arith}
use Rattle.std.proofs.lemmas.Bool.{leb-false, leb-true}
use Rattle.r2_base.specs.Limits.{id_limit, most_body}
use Rattle.r2_base.specs.declared.event.Event.{Event}
use Rattle.r2_base.specs.declared.event.Event.TheVariants.{Datagram as DatagramEvent, Tick, Quiet}
use Rattle.r2_client.specs.declared.begin_fault.BeginFault.TheVariants.{Outstanding, TooLong, IdsUsed}
use Rattle.r2_client.specs.declared.call_end.CallEnd.TheVariants.{TimedOut}
use Rattle.r2_client.specs.declared.open_call.OpenCall.{OpenCall}
use Rattle.r2_client.specs.Session.{Stepped, began, ended, refusal, sent_again, stepped, ticked, ticked_by, unchanged}
use Rattle.r2_client.specs.State.{SessionState}
use Rattle.r2_client.proofs.Outcomes.{branch, outcome}
use Rattle.cmd_loop.specs.Events.{event_of}
use Rattle.cmd_loop.specs.Round.{due_at}
use Rattle.cmd_loop.specs.Ends.{Ends}
use Rattle.cmd_client.specs.Talk.{AreInTurn, Asked, Asks, Hears, MayTake, Step, Talk, Tells, asked_in, course, stepped_by, taken}
use Rattle.cmd_client.specs.Stops.{Completes}

-- no event uses an id
abbrev UsesNone : SessionState → Stepped → Type 0
UsesNone s r = r.session.next ≡ s.next

tick-by : (s : SessionState) (call : Option OpenCall) → UsesNone s (ticked_by s call)
unfolding sent_again
tick-by s None = refl
tick-by s (Some call) =
    branch (UsesNone s) (nat_lt (call.ticks + 1) s.wait) (unchanged (record s { open_call = Some (record call { ticks = call.ticks + 1 }) }))
    (if nat_lt call.sendings s.tries then sent_again s call else ended s TimedOut) (λ e. refl)
    (λ e. branch (UsesNone s) (nat_lt call.sendings s.tries) (sent_again s call) (ended s TimedOut) (λ f. refl) (λ f. refl))

event-uses-none : (s : SessionState) (event : Event) → UsesNone s (stepped s event)
unfolding ticked
event-uses-none s (DatagramEvent d) = outcome (UsesNone s) s d (record { sent = λ us ds. refl; replied = λ us body. refl; rejected = refl })
event-uses-none s Tick = tick-by s s.open_call
event-uses-none s Quiet = refl

events-use-none : (s : SessionState) (events : List Event) → UsesNone s (stepped_by s events)
events-use-none s [] = refl
events-use-none s (event ∷ more) = event-uses-none s event

-- each call that is asked uses one, and nothing else does
step-uses : (t : Talk) (x : Step) → (taken t x).next.session.next ≡ t.session.next + length (asked_in (x ∷ []))
unfolding asked_in began
step-uses t (Asks policy body) = refl
step-uses t (Hears item) = let e = event-uses-none t.session (event_of item) in omega (arith, e)
step-uses t (Tells moment) = let e = events-use-none t.session (due_at t.ticker moment) in omega (arith, e)

one-asked : (x : Step) (xs : List Step) → length (asked_in (x ∷ xs)) ≡ length (asked_in (x ∷ [])) + length (asked_in xs)
unfolding asked_in
one-asked (Asks policy body) xs = omega arith
one-asked (Hears item) xs = omega arith
one-asked (Tells moment) xs = omega arith

steps-use : (t : Talk) (xs : List Step) → (course t xs).next.session.next ≡ t.session.next + length (asked_in xs)
unfolding course asked_in
steps-use t [] = omega arith
steps-use t (x ∷ xs) = let a = steps-use (taken t x).next xs in let b = step-uses t x in let c = one-asked x xs in omega (arith, a, b, c)

none-of : (a b c : Bool) → (if a then Some Outstanding else (if b then Some TooLong else (if c then Some IdsUsed else None))) ≡ None → c ≡ false
none-of true b c e = cc
none-of false true c e = cc
none-of false false true e = cc
none-of false false false e = refl

ids-of : (a b c : Bool) → (if a then Some Outstanding else (if b then Some TooLong else (if c then Some IdsUsed else None))) ≡ Some IdsUsed → c ≡ true
ids-of true b c e = cc
ids-of false true c e = cc
ids-of false false true e = refl
ids-of false false false e = cc

-- a call that may begin has an id, and where ids ran out there is none
left-over : (s : SessionState) (body : List ℕ) → refusal s body ≡ None → s.next < id_limit
left-over s body may = leb-false id_limit s.next (none-of (is_some s.open_call) (nat_lt most_body (length body)) (nat_le id_limit s.next) may)

used-up : (s : SessionState) (body : List ℕ) → refusal s body ≡ Some IdsUsed → id_limit ≤ s.next
used-up s body no_id = leb-true id_limit s.next (ids-of (is_some s.open_call) (nat_lt most_body (length body)) (nat_le id_limit s.next) no_id)

step-within : (t : Talk) (x : Step) → MayTake t x → t.session.next ≤ id_limit → (taken t x).next.session.next ≤ id_limit
unfolding began
step-within t (Asks policy body) may few = let e = left-over t.session body may.2 in omega (arith, e)
step-within t (Hears item) may few = let e = event-uses-none t.session (event_of item) in omega (arith, e, few)
step-within t (Tells moment) may few = let e = events-use-none t.session (due_at t.ticker moment) in omega (arith, e, few)

within : (t : Talk) (xs : List Step) → AreInTurn t xs → t.session.next ≤ id_limit → (course t xs).next.session.next ≤ id_limit
unfolding course
within t [] turns few = few
within t (x ∷ xs) turns few = within (taken t x).next xs turns.1 (step-within t x turns.0 few)

-- where the next call has no id, all were used
pub all-used : (t u : Talk) (a b : Ends) (asked : List Asked) (room left : ℕ) (body : List ℕ) → t.session.next ≡ 0 → Completes asked room left t u a b
    → refusal u.session body ≡ Some IdsUsed → length asked ≡ id_limit
all-used t u a b asked room left body fresh done no_id =
    let used = used-up u.session body no_id in
    let now = ap (λ (w : Talk). w.session.next) done.went.left in
    let count = steps-use t done.steps in
    let most = within t done.steps done.went.took.in_turn (omega (arith, fresh)) in
    let same = ap (λ (l : List Asked). length l) done.asks in
    omega (arith, used, now, count, most, same, fresh)
