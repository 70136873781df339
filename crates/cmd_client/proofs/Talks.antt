-- A client's rounds, one after another.
use Rattle.std.proofs.Common.{◌≡◌, inr, ℕ, ◌+◌, ◌-◌, ◌<◌, false, List, [], ◌∷◌, ◌++◌, length, Result, Ok, Err, refl, arith}
use Rattle.std.specs.Prelude.{IfErr, OnOk}
use Rattle.r2_link.specs.declared.lane.Item.{Item}
use Rattle.cmd_status.specs.declared.status.Status.{Status}
use Rattle.cmd_status.specs.declared.status.Status.TheVariants.{Memory, SinkFault, LinkFault, ClockFault, TimedOut, IdsUsed, TurnsSpent}
use Rattle.cmd_loop.specs.Ends.{Ends}
use Rattle.cmd_client.specs.Talk.{Asked, Asks, Hears, IsOpen, Step, Talk, Tells, asked_in, items_of}
use Rattle.cmd_client.specs.Stops.{Completes, StopsCall, StopsTalk, Went}
use Rattle.cmd_client.proofs.Courses.{asks-then, few-then, stops-then, went-none, went-then}

pub converse-init : (t : Talk) (o : Ends) (room : ℕ)
    → (steps : List Step) × Went t t o o steps × (asked_in steps ≡ []) × (length (items_of steps) + room ≡ room)
unfolding asked_in items_of
converse-init t o room = ([], went-none t o, refl, omega arith)

-- after the item of one more round
pub heard-one : (t u v : Talk) (a b c : Ends) (steps : List Step) (item : Item) (room left : ℕ)
    → Went t u a b steps → asked_in steps ≡ [] → length (items_of steps) + left ≡ room → 0 < left → Went u v b c (Hears item ∷ [])
    → Went t v a c (steps ++ Hears item ∷ []) × (asked_in (steps ++ Hears item ∷ []) ≡ []) × (length (items_of (steps ++ Hears item ∷ [])) + (left - 1) ≡ room)
unfolding asked_in items_of
heard-one t u v a b c steps item room left went asks counted some heard =
    (went-then t u v a b c steps (Hears item ∷ []) went heard, asks-then steps (Hears item ∷ []) [] [] asks refl, omega (arith, few-then steps (Hears item ∷ []), counted, some))

-- after one more round
pub round-of : (t u v w : Talk) (a b c d : Ends) (steps : List Step) (item : Item) (moment room left : ℕ)
    → Went t u a b steps → asked_in steps ≡ [] → length (items_of steps) + left ≡ room → 0 < left → Went u v b c (Hears item ∷ []) → Went v w c d (Tells moment ∷ [])
    → Went t w a d ((steps ++ Hears item ∷ []) ++ Tells moment ∷ []) × (asked_in ((steps ++ Hears item ∷ []) ++ Tells moment ∷ []) ≡ [])
    × (length (items_of ((steps ++ Hears item ∷ []) ++ Tells moment ∷ [])) + (left - 1) ≡ room)
unfolding asked_in items_of
round-of t u v w a b c d steps item moment room left went asks counted some heard told =
    let half = heard-one t u v a b c steps item room left went asks counted some heard in (
      went-then t v w a c d (steps ++ Hears item ∷ []) (Tells moment ∷ []) half.0 told,
      asks-then (steps ++ Hears item ∷ []) (Tells moment ∷ []) [] [] half.1 refl,
      omega (arith, few-then (steps ++ Hears item ∷ []) (Tells moment ∷ []), half.2),
    )

-- all that may be received was received
pub spent : (t u : Talk) (a b : Ends) (steps : List Step) (room : ℕ) → Went t u a b steps → asked_in steps ≡ [] → length (items_of steps) ≡ room
    → u.over ≡ false → u.heard ≡ false → IsOpen u.session.open_call → StopsTalk [] room t a b TurnsSpent
spent t u a b steps room went asks all over heard opened = record { after = u; steps = steps; went = went; asks = asks; then = ((over, heard, opened), all) }

-- a call that began, and came to its end
pub completes : (t u v : Talk) (a b c : Ends) (call : Asked) (room left : ℕ) → Went t u a b (Asks call.policy call.body ∷ []) → Completes [] room left u v b c
    → Completes (call ∷ []) room left t v a c
unfolding asked_in items_of
completes t u v a b c call room left begun rest = record {
  steps = Asks call.policy call.body ∷ [] ++ rest.steps;
  went = went-then t u v a b c (Asks call.policy call.body ∷ []) rest.steps begun rest.went;
  asks = asks-then (Asks call.policy call.body ∷ []) rest.steps (call ∷ []) [] refl rest.asks;
  none = rest.none;
  counted = rest.counted;
}

-- a call that began, and stopped
pub call-stops : (t u : Talk) (a b c : Ends) (call : Asked) (room : ℕ) (status : Status) → Went t u a b (Asks call.policy call.body ∷ []) → StopsTalk [] room u b c status
    → StopsTalk (call ∷ []) room t a c status
unfolding asked_in items_of
call-stops t u a b c call room status begun stops =
    stops-then t u a b c (Asks call.policy call.body ∷ []) (call ∷ []) [] room room status begun refl (omega arith) stops

-- what stops a talk stops its call
pub talk-stops : (call : Asked) (room : ℕ) (t : Talk) (a b : Ends) (status : Status) → StopsTalk (call ∷ []) room t a b status → StopsCall call room t a b status
talk-stops call room t a b Memory stops = inr stops
talk-stops call room t a b IdsUsed stops = absurd stops
talk-stops call room t a b SinkFault stops = stops
talk-stops call room t a b LinkFault stops = stops
talk-stops call room t a b ClockFault stops = stops
talk-stops call room t a b TimedOut stops = stops
talk-stops call room t a b TurnsSpent stops = stops
talk-stops call room t a b _ stops = absurd stops

-- what follows from an answer
pub map-ok : {T E : Type 0} (r : Result T E) (P Q : Type 0) → (P → Q) → OnOk r P → OnOk r Q
map-ok (Ok x) P Q f h = f h
map-ok (Err e) P Q f h = h

pub map-err : {T E : Type 0} (r : Result T E) (P Q : E → Type 0) → ((e : E) → P e → Q e) → IfErr r P → IfErr r Q
map-err (Ok x) P Q f h = h
map-err (Err e) P Q f h = f e h
