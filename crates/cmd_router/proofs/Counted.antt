-- One turn more of a pass, and what it counts.
use Rattle.std.proofs.Common.{◌≡◌, ◌≤◌, ◌<◌, ◌+◌, ◌*◌, ℕ, Bool, true, false, List, [], ◌∷◌, ◌++◌, length, refl, ◌∙◌, arith, length-append}
use Rattle.std.specs.Prelude.{cond, count_by}
use Rattle.std.proofs.lemmas.List.Sums.{sum_by-append}
use Rattle.r2_base.specs.declared.datagram.Datagram.{Datagram}
use Rattle.r2_base.specs.declared.event.Event.{Event}
use Rattle.r2_jbsq.specs.Limits.{most_servers}
use Rattle.r2_jbsq.specs.Packets.{asks, is_request, is_tick, requests_among}
use Rattle.r2_desk.specs.Passes.{CountsTurn, feeds_back}
use Rattle.r2_desk.specs.States.{PassState}
use Rattle.cmd_router.specs.Counted.{CountsTurns, asked_among, feedback_among, ticks_among}

-- those that pass a test, with one more
more : (f : Event → Bool) (events : List Event) (event : Event) → count_by f (events ++ event ∷ []) ≡ count_by f events + cond (f event) 1 0
more f events event =
    let both = sum_by-append (λ (x : Event). cond (f x) 1 0) events (event ∷ []) in omega (arith, both)

-- what grows by one at most, and only where a test holds
grows-by : (old new : ℕ) (test : Bool) → new ≤ old + 1 → (old < new → test ≡ true) → new ≤ old + cond test 1 0
grows-by old new true most tested = omega (arith, most)
grows-by old new false most tested = let no : old < new → ⊥ = λ h. let is = tested h in cc in omega (arith, no)

-- at most as many as are sent are counted, and no more are sent than those and one for each server at a tick
at-most-sent : (tick : Bool) (old new requests : ℕ) → (tick ≡ false → new ≡ old + requests) → (tick ≡ true → new ≡ old) → new ≤ old + requests
at-most-sent true old new requests other same = omega (arith, same refl)
at-most-sent false old new requests other same = omega (arith, other refl)

few-repeats : (tick : Bool) (old new requests long : ℕ) → (tick ≡ false → new ≡ old + requests) → (tick ≡ true → new ≡ old) → (tick ≡ true → requests ≡ long)
    → long ≤ most_servers → old + requests ≤ new + most_servers * cond tick 1 0
few-repeats true old new requests long other same repeats few = omega (arith, same refl, repeats refl, few)
few-repeats false old new requests long other same repeats few = omega (arith, other refl)

one-sent : (tick : Bool) (long : ℕ) → (tick ≡ false → long ≤ 1) → long ≤ most_servers → long ≤ 1 + most_servers * cond tick 1 0
one-sent true long one few = omega (arith, few)
one-sent false long one few = omega (arith, one refl)

pub counts-more : (first old new : PassState) (events : List Event) (event : Event) (sent sends : List Datagram)
    → CountsTurns first events sent old → CountsTurn old event sends new → CountsTurns first (events ++ event ∷ []) (sent ++ sends) new
counts-more first old new events event sent sends before turn =
    let longer : length (events ++ event ∷ []) ≡ length events + 1 = length-append events (event ∷ []) in
    let asked : asked_among (events ++ event ∷ []) ≡ asked_among events + cond (asks event) 1 0 = more asks events event in
    let fed : feedback_among (events ++ event ∷ []) ≡ feedback_among events + cond (feeds_back event) 1 0 = more feeds_back events event in
    let ticked : ticks_among (events ++ event ∷ []) ≡ ticks_among events + cond (is_tick event) 1 0 = more is_tick events event in
    let both : requests_among (sent ++ sends) ≡ requests_among sent + requests_among sends = sum_by-append (λ (d : Datagram). cond (is_request d.bytes) 1 0) sent sends in
    let accepted : new.made.accepted ≤ old.made.accepted + cond (asks event) 1 0 = grows-by old.made.accepted new.made.accepted (asks event) turn.one_accepted turn.asked in
    let answered : new.made.answered ≤ old.made.answered + cond (feeds_back event) 1 0 = grows-by old.made.answered new.made.answered (feeds_back event) turn.one_answered turn.told in
    let joined : length (sent ++ sends) ≡ length sent + length sends = length-append sent sends in
    let few : length sends ≤ 1 + most_servers * cond (is_tick event) 1 0 = one-sent (is_tick event) (length sends) turn.one turn.few in
    let least : new.made.forwarded ≤ old.made.forwarded + requests_among sends =
    at-most-sent (is_tick event) old.made.forwarded new.made.forwarded (requests_among sends) turn.forwarded turn.stays in
    let most : old.made.forwarded + requests_among sends ≤ new.made.forwarded + most_servers * cond (is_tick event) 1 0 =
    few-repeats (is_tick event) old.made.forwarded new.made.forwarded (requests_among sends) (length sends) turn.forwarded turn.stays turn.repeats turn.few in
    record {
      turns = omega (arith, before.turns, turn.turns, longer);
      slots = turn.slots ∙ before.slots;
      accepted = omega (arith, before.accepted, accepted, asked);
      answered = omega (arith, before.answered, answered, fed);
      forwarded = omega (arith, before.forwarded, least, both);
      repeats = omega (arith, before.repeats, most, both, ticked);
      few = omega (arith, before.few, few, joined, longer, ticked);
    }
