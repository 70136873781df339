-- Each call has the next id.
use Rattle.std.proofs.Common.{◌≡◌, ◌≤◌, ◌<◌, ◌+◌, ℕ, Bool, if◌then◌else◌, List, [], ◌∷◌, length, Option, Some, None, refl, ap, subst, arith}
use Rattle.std.specs.Prelude.{is_some, nat_le, nat_lt}
use Rattle.r2_base.specs.declared.datagram.Datagram.{Datagram}
use Rattle.r2_base.specs.declared.event.Event.{Event}
use Rattle.r2_base.specs.Limits.{id_limit, most_body}
use Rattle.r2_base.specs.declared.event.Event.TheVariants.{Datagram as DatagramEvent, Tick, Quiet}
use Rattle.r2_client.specs.declared.begin_fault.BeginFault.{BeginFault}
use Rattle.r2_client.specs.declared.begin_fault.BeginFault.TheVariants.{IdsUsed, Outstanding, TooLong}
use Rattle.r2_client.specs.declared.call_end.CallEnd.TheVariants.{TimedOut}
use Rattle.r2_client.specs.declared.open_call.OpenCall.{OpenCall}
use Rattle.r2_client.specs.Laws.{AreInOrder, IdsAreInOrder}
use Rattle.r2_client.specs.Runs.{Input, Asks, Comes, asked, ids_of, with_id}
use Rattle.r2_client.specs.Session.{Stepped, began, ended, received, refusal, sent_again, stepped, ticked, ticked_by}
use Rattle.r2_client.specs.State.{SessionState, session_from}
use Rattle.r2_client.proofs.Outcomes.{branch, outcome}

-- the next id is this one
abbrev HasNext : ℕ → Stepped → Type 0
HasNext next r = r.session.next ≡ next

received_next : (s : SessionState) (d : Datagram) → HasNext s.next (received s d)
received_next s d =
    outcome (HasNext s.next) s d (record { sent = λ unfinished sends. refl; replied = λ unfinished body. refl; rejected = refl })

ticked_call : (s : SessionState) (call : Option OpenCall) → HasNext s.next (ticked_by s call)
unfolding sent_again
ticked_call s None = refl
ticked_call s (Some call) =
    branch (HasNext s.next) (nat_lt (call.ticks + 1) s.wait) _ _ (λ e. refl)
    (λ e. branch (HasNext s.next) (nat_lt call.sendings s.tries) (sent_again s call) (ended s TimedOut) (λ e. refl) (λ e. refl))

ticked_next : (s : SessionState) → HasNext s.next (ticked s)
unfolding ticked
ticked_next s = ticked_call s s.open_call

-- an event uses no id
stepped_next : (s : SessionState) (event : Event) → HasNext s.next (stepped s event)
stepped_next s (DatagramEvent d) = received_next s d
stepped_next s Tick = ticked_next s
stepped_next s Quiet = refl

-- a call that isn't refused has an id left
id_left : (used long : Bool) (next : ℕ)
    → (if used then Some Outstanding else (if long then Some TooLong else (if nat_le id_limit next then Some IdsUsed else None))) ≡ None
    → next < id_limit
id_left used long next e = grind (arith, e)

one_more : (next : ℕ) (ids : List ℕ) → AreInOrder (next + 1) ids → AreInOrder next (next ∷ ids)
one_more next ids are = record { order = ap (λ (rest : List ℕ). next ∷ rest) are.order; most = omega (arith, are.most) }

-- a request is refused and uses no id, or uses the next
by_refusal : (s : SessionState) (policy : ℕ) (body : List ℕ) (more : List Input) (o : Option BeginFault)
    → (o ≡ None → AreInOrder (s.next + 1) (ids_of (began s policy body) more)) → AreInOrder s.next (ids_of s more)
    → AreInOrder s.next (with_id s.next o (ids_of (asked s policy body o) more))
by_refusal s policy body more None begins refused = one_more s.next _ (begins refl)
by_refusal s policy body more (Some fault) begins refused = refused

from : (s : SessionState) (inputs : List Input) → s.next ≤ id_limit → AreInOrder s.next (ids_of s inputs)
unfolding ids_of began
from s [] few = record { order = refl; most = omega (arith, few) }
from s (Asks policy body ∷ more) few =
    by_refusal s policy body more (refusal s body)
    (λ e. let left = id_left (is_some s.open_call) (nat_lt most_body (length body)) s.next e in from (began s policy body) more (omega (arith, left)))
    (from s more few)
from s (Comes event ∷ more) few =
    let same = stepped_next s event in
    subst (λ (next : ℕ). AreInOrder next (ids_of (stepped s event).session more)) same (from (stepped s event).session more (rw same few))

pub in_order : IdsAreInOrder
in_order me targets wait tries first inputs few = from (session_from me targets wait tries first) inputs few
