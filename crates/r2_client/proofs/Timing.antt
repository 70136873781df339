-- An open call, tick by tick.
use Rattle.std.proofs.Common.{◌≡◌, ◌≤◌, ◌<◌, ◌+◌, ◌*◌, ℕ, false, if◌then◌else◌, List, [], ◌∷◌, Option, Some, None, refl, ap, subst, arith}
use Rattle.std.specs.Prelude.{◌==◌, nat_lt}
use Rattle.std.proofs.Common.{add-one}
use Rattle.std.proofs.Math.Nat.{mul-le-mul_left, mul-suc}
use Rattle.std.proofs.lemmas.Bool.{ltb-true}
use Rattle.r2_base.specs.declared.datagram.Datagram.{Datagram}
use Rattle.r2_base.specs.declared.event.Event.{Event}
use Rattle.r2_base.specs.declared.event.Event.TheVariants.{Datagram as DatagramEvent, Tick, Quiet}
use Rattle.r2_client.specs.declared.call_end.CallEnd.{CallEnd}
use Rattle.r2_client.specs.declared.call_end.CallEnd.TheVariants.{TimedOut}
use Rattle.r2_client.specs.declared.open_call.OpenCall.{OpenCall}
use Rattle.r2_client.specs.Laws.{TimesOutAtItsTick}
use Rattle.r2_client.specs.Runs.{EndNothing, after, ticks_among}
use Rattle.r2_client.specs.Session.{Stepped, began, received, sent_again, ticked, ticked_by}
use Rattle.r2_client.specs.State.{SessionState}
use Rattle.r2_client.proofs.Outcomes.{branch, outcome}

-- a call to which so many ticks came: those of the sendings that are over, and those since the last one
record IsOpenAt (wait tries n : ℕ) (call : OpenCall) : Type 0 where
  pub ticks : call.ticks < wait
  pub sendings : call.sendings ≤ tries
  pub sum : call.ticks + wait * call.sendings ≡ n + wait

-- the call of a session to which so many ticks came since it began
abbrev HasCallAt : ℕ → ℕ → ℕ → Option OpenCall → Type 0
HasCallAt wait tries n None = ⊥
HasCallAt wait tries n (Some call) = IsOpenAt wait tries n call

record IsAt (wait tries n : ℕ) (s : SessionState) : Type 0 where
  pub wait_is : s.wait ≡ wait
  pub tries_is : s.tries ≡ tries
  pub call : HasCallAt s.wait s.tries n s.open_call

-- where the call goes on, it is at tick number n; and it isn't over time
record GoesOn (wait tries n : ℕ) (r : Stepped) : Type 0 where
  pub at : r.step.end ≡ None → IsAt wait tries n r.session
  pub in_time : r.step.end ≡ Some TimedOut → ⊥

received_at : (wait tries n : ℕ) (s : SessionState) (d : Datagram) → IsAt wait tries n s → GoesOn wait tries n (received s d)
received_at wait tries n s d is =
    outcome (GoesOn wait tries n) s d
    (record {
      sent = λ unfinished sends. record { at = λ e. record { wait_is = is.wait_is; tries_is = is.tries_is; call = is.call }; in_time = λ e. cc };
      replied = λ unfinished body. record { at = λ e. cc; in_time = λ e. cc };
      rejected = record { at = λ e. cc; in_time = λ e. cc };
    })

-- the end of a call at a tick
abbrev end_at : ℕ → ℕ → Option CallEnd
end_at n last = if n == last then Some TimedOut else None

not_yet : (n last : ℕ) → n < last → None ≡ end_at n last
not_yet n last few = grind (arith, few)

in_the_end : (n last : ℕ) → n ≡ last → Some TimedOut ≡ end_at n last
in_the_end n last same = grind (arith, same)

-- what a tick comes to at tick number n
record TicksAt (wait tries n : ℕ) (r : Stepped) : Type 0 where
  pub end : r.step.end ≡ end_at n (wait * tries)
  pub at : r.step.end ≡ None → IsAt wait tries n r.session

products : (wait a b : ℕ) → a ≤ b → wait * a ≤ wait * b
products wait a b few = mul-le-mul_left wait few

one_more : (wait a : ℕ) → wait * (a + 1) ≡ wait * a + wait
one_more wait a = rw add-one (mul-suc wait a)

-- the cases of a tick, in numbers
waits : (wait tries n ticks sendings : ℕ) → ticks + 1 < wait → sendings ≤ tries → ticks + wait * sendings ≡ n + wait → n + 1 < wait * tries
waits wait tries n ticks sendings early few sum = omega (arith, early, sum, products wait sendings tries few)

tries_again : (wait tries n ticks sendings : ℕ) → ticks < wait → wait ≤ ticks + 1 → sendings < tries → ticks + wait * sendings ≡ n + wait
    → (n + 1 < wait * tries) × (wait * (sendings + 1) ≡ (n + 1) + wait)
tries_again wait tries n ticks sendings within late few sum =
    let more = one_more wait sendings in
    let most = products wait (sendings + 1) tries (omega (arith, few)) in
    (omega (arith, within, late, sum, more, most), omega (arith, within, late, sum, more))

is_over : (wait tries n ticks sendings : ℕ) → ticks < wait → wait ≤ ticks + 1 → sendings ≤ tries → tries ≤ sendings → ticks + wait * sendings ≡ n + wait
    → n + 1 ≡ wait * tries
is_over wait tries n ticks sendings within late few most sum =
    let same : sendings ≡ tries = omega (arith, few, most) in
    let product : wait * sendings ≡ wait * tries = ap (λ (k : ℕ). wait * k) same in
    omega (arith, within, late, sum, product)

not_less : (a b : ℕ) → nat_lt a b ≡ false → b ≤ a
not_less a b e = grind (arith, e)

ticked_call : (n : ℕ) (s : SessionState) (call : OpenCall) → IsOpenAt s.wait s.tries n call → TicksAt s.wait s.tries (n + 1) (ticked_by s (Some call))
unfolding sent_again
ticked_call n s call is =
    let P : Stepped → Type 0 = TicksAt s.wait s.tries (n + 1) in
    branch P (nat_lt (call.ticks + 1) s.wait) _ _
    (λ early.
    let few = ltb-true (call.ticks + 1) s.wait early in
    record {
      end = not_yet (n + 1) (s.wait * s.tries) (waits s.wait s.tries n call.ticks call.sendings few is.sendings is.sum);
      at = λ e. record { wait_is = refl; tries_is = refl; call = record { ticks = few; sendings = is.sendings; sum = omega (arith, is.sum) } };
    })
    (λ late.
    let most = not_less (call.ticks + 1) s.wait late in
    branch P (nat_lt call.sendings s.tries) _ _
    (λ again.
    let few = ltb-true call.sendings s.tries again in
    let go = tries_again s.wait s.tries n call.ticks call.sendings is.ticks most few is.sum in
    record {
      end = not_yet (n + 1) (s.wait * s.tries) go.0;
      at = λ e. record { wait_is = refl; tries_is = refl; call = record { ticks = omega (arith, is.ticks); sendings = omega (arith, few); sum = omega (arith, go.1) } };
    })
    (λ over.
    record {
      end = in_the_end (n + 1) (s.wait * s.tries) (is_over s.wait s.tries n call.ticks call.sendings is.ticks most is.sendings (not_less call.sendings s.tries over) is.sum);
      at = λ e. cc;
    }))

ticked_open : (n : ℕ) (s : SessionState) (open_call : Option OpenCall) → HasCallAt s.wait s.tries n open_call → TicksAt s.wait s.tries (n + 1) (ticked_by s open_call)
ticked_open n s (Some call) is = ticked_call n s call is
ticked_open n s None is = absurd is

ticked_at : (wait tries n : ℕ) (s : SessionState) → IsAt wait tries n s → TicksAt wait tries (n + 1) (ticked s)
unfolding ticked
ticked_at wait tries n s is =
    let own = ticked_open n s s.open_call is.call in
    subst (λ (w : ℕ). TicksAt w tries (n + 1) (ticked s)) is.wait_is (subst (λ (t : ℕ). TicksAt s.wait t (n + 1) (ticked s)) is.tries_is own)

-- after any events, a call that none of them ended is at the tick that is the number of those before and the ticks among them
after_at : (wait tries n : ℕ) (s : SessionState) (events : List Event) → IsAt wait tries n s → EndNothing s events
    → IsAt wait tries (n + ticks_among events) (after s events)
unfolding after ticks_among
after_at wait tries n s [] is none = subst (λ (k : ℕ). IsAt wait tries k s) (omega arith) is
after_at wait tries n s (Tick ∷ more) is none =
    let next = after_at wait tries (n + 1) (ticked s).session more ((ticked_at wait tries n s is).at none.0) none.1 in
    subst (λ (k : ℕ). IsAt wait tries k (after (ticked s).session more)) (omega arith) next
after_at wait tries n s (DatagramEvent d ∷ more) is none =
    after_at wait tries n (received s d).session more ((received_at wait tries n s d is).at none.0) none.1
after_at wait tries n s (Quiet ∷ more) is none = after_at wait tries n s more is none.1

began_at : (s : SessionState) (policy : ℕ) (body : List ℕ) → 1 ≤ s.wait → 1 ≤ s.tries → IsAt s.wait s.tries 0 (began s policy body)
unfolding began
began_at s policy body some_wait some_tries =
    record { wait_is = refl; tries_is = refl; call = record { ticks = omega (arith, some_wait); sendings = some_tries; sum = omega arith } }

pub times_out : TimesOutAtItsTick
times_out s policy body events some_wait some_tries none =
    let at = after_at s.wait s.tries 0 (began s policy body) events (began_at s policy body some_wait some_tries) none in
    let is = subst (λ (n : ℕ). IsAt s.wait s.tries n (after (began s policy body) events)) (omega arith) at in
    record {
      tick = (ticked_at s.wait s.tries (ticks_among events) (after (began s policy body) events) is).end;
      datagram = λ d. (received_at s.wait s.tries (ticks_among events) (after (began s policy body) events) d is).in_time;
    }
