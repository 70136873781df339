-- A session over many calls and events.
use Rattle.std.specs.Prelude.{◌≡◌, ℕ, ◌+◌, List, [], ◌∷◌, Option, Some, None}
use Rattle.r2_base.specs.declared.event.Event.{Event}
use Rattle.r2_base.specs.declared.event.Event.TheVariants.{Datagram as DatagramEvent, Tick, Quiet}
use Rattle.r2_client.specs.declared.begin_fault.BeginFault.{BeginFault}
use Rattle.r2_client.specs.Session.{began, new_call, refusal, stepped}
use Rattle.r2_client.specs.State.{SessionState}

-- a session after these events, one after another
unfoldable pub after : SessionState → List Event → SessionState
after s [] = s
after s (event ∷ more) = after (stepped s event).session more

-- none of these events ends the call
abbrev pub EndNothing : SessionState → List Event → Type 0
EndNothing s [] = Unit {0}
EndNothing s (event ∷ more) = ((stepped s event).step.end ≡ None) × EndNothing (stepped s event).session more

-- how many ticks are among these events
unfoldable pub ticks_among : List Event → ℕ
ticks_among [] = 0
ticks_among (Tick ∷ more) = ticks_among more + 1
ticks_among (DatagramEvent d ∷ more) = ticks_among more
ticks_among (Quiet ∷ more) = ticks_among more

-- what a session is given: a request to make, or an event
pub data Input : Type 0 where
  Asks : ℕ → List ℕ → Input
  Comes : Event → Input

-- a session at a request, which is refused or begins a call
abbrev pub asked : SessionState → ℕ → List ℕ → Option BeginFault → SessionState
asked s policy body None = began s policy body
asked s policy body (Some fault) = s

-- the ids with that of a call, where it begins
abbrev pub with_id : ℕ → Option BeginFault → List ℕ → List ℕ
with_id id None ids = id ∷ ids
with_id id (Some fault) ids = ids

-- the ids of the calls that begin, in their order
unfoldable pub ids_of : SessionState → List Input → List ℕ
ids_of s [] = []
ids_of s (Asks policy body ∷ more) =
    with_id (new_call s policy body).id (refusal s body) (ids_of (asked s policy body (refusal s body)) more)
ids_of s (Comes event ∷ more) = ids_of (stepped s event).session more
