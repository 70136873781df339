-- The events of a loop, one item or moment more.
use Rattle.std.proofs.Common.{◌≡◌, ℕ, zero, suc, ◌+◌, max, List, [], ◌∷◌, ◌++◌, length, refl, sym, ap, ◌∙◌, append_assoc, append-nil, length-append, arith}
use Rattle.std.proofs.lemmas.List.{map-append}
use Rattle.r2_base.specs.declared.event.Event.{Event}
use Rattle.r2_base.specs.declared.event.Event.TheVariants.{Tick}
use Rattle.r2_link.specs.declared.lane.Item.{Item}
use Rattle.r2_link.specs.declared.lane.Item.TheVariants.{Datagram as ADatagram, Quiet as NoDatagram}
use Rattle.cmd_loop.specs.declared.ticker.Ticker.{Ticker}
use Rattle.cmd_loop.specs.Events.{due, elapsed, event_of, events, heard, reached}
use Rattle.cmd_loop.specs.Happenings.{Happening, Came, Closing, came, closed}
use Rattle.cmd_loop.specs.Loop.{AskedBefore, NotAskedAfterLast}
use Rattle.cmd_loop.specs.Round.{due_at, ticked}

-- the events of one more item, before the clock is asked after it
pub heard-item : (tick start last : ℕ) (items : List Item) (moments : List ℕ) (item : Item)
    → length moments ≡ length items → heard tick start last (items ++ item ∷ []) moments ≡ heard tick start last items moments ++ event_of item ∷ []
unfolding heard
heard-item tick start last [] [] item same = refl
heard-item tick start last [] (m ∷ ms) item same = absurd (omega (arith, same))
heard-item tick start last (i ∷ is) [] item same = absurd (omega (arith, same))
heard-item tick start last (i ∷ is) (m ∷ ms) item same =
    let now = elapsed tick start m in
    ap (λ (l : List Event). (event_of i ∷ due last now) ++ l) (heard-item tick start (max last now) is ms item (omega (arith, same)))
    ∙ sym (append_assoc (event_of i ∷ due last now) (heard tick start (max last now) is ms) (event_of item ∷ []))

-- and after that
pub heard-round : (tick start last : ℕ) (items : List Item) (moments : List ℕ) (item : Item) (moment : ℕ)
    → length moments ≡ length items
    → heard tick start last (items ++ item ∷ []) (moments ++ moment ∷ []) ≡ heard tick start last items moments ++ event_of item ∷ due (reached tick start last moments) (elapsed tick start moment)
unfolding heard reached
heard-round tick start last [] [] item moment same = append-nil (event_of item ∷ due last (elapsed tick start moment))
heard-round tick start last [] (m ∷ ms) item moment same = absurd (omega (arith, same))
heard-round tick start last (i ∷ is) [] item moment same = absurd (omega (arith, same))
heard-round tick start last (i ∷ is) (m ∷ ms) item moment same =
    let now = elapsed tick start m in
    let more = event_of item ∷ due (reached tick start (max last now) ms) (elapsed tick start moment) in
    ap (λ (l : List Event). (event_of i ∷ due last now) ++ l) (heard-round tick start (max last now) is ms item moment (omega (arith, same)))
    ∙ sym (append_assoc (event_of i ∷ due last now) (heard tick start (max last now) is ms) more)

-- the ticks that have gone by at one more moment
pub reached-more : (tick start last : ℕ) (moments : List ℕ) (moment : ℕ)
    → reached tick start last (moments ++ moment ∷ []) ≡ max (reached tick start last moments) (elapsed tick start moment)
unfolding reached
reached-more tick start last [] moment = refl
reached-more tick start last (m ∷ ms) moment = reached-more tick start (max last (elapsed tick start m)) ms moment

-- a ticker whose start is that moment, after some later ones
abbrev pub ticker_at : ℕ → ℕ → List ℕ → Ticker
ticker_at tick start later = record { start = start; tick_ms = tick; reached = reached tick start 0 later }

pub ticker-begun : (tick start : ℕ) → record { start = start; tick_ms = tick; reached = 0 } ≡ ticker_at tick start []
unfolding reached
ticker-begun tick start = refl

pub ticker-more : (tick start : ℕ) (later : List ℕ) (t u : Ticker) (moment : ℕ) → t ≡ ticker_at tick start later → u ≡ ticked t moment → u ≡ ticker_at tick start (later ++ moment ∷ [])
ticker-more tick start later t u moment before is =
    is ∙ ap (λ (v : Ticker). ticked v moment) before
    ∙ ap (λ (n : ℕ). record { start = start; tick_ms = tick; reached = n }) (sym (reached-more tick start 0 later moment))

-- lists of events that come one after the other
came-more : (es fs : List Event) → came es ++ came fs ≡ came (es ++ fs)
came-more es fs = sym (map-append Came es fs)

pub events-begun : (tick start : ℕ) → [] ≡ came (events tick [] (start ∷ []))
unfolding heard
events-begun tick start = refl

-- what happens in the first half of a round
pub came-item : (tick start : ℕ) (items : List Item) (later : List ℕ) (item : Item) → length later ≡ length items
    → came (events tick items (start ∷ later)) ++ Came (event_of item) ∷ [] ≡ came (events tick (items ++ item ∷ []) (start ∷ later))
came-item tick start items later item each =
    came-more (events tick items (start ∷ later)) (event_of item ∷ []) ∙ ap came (sym (heard-item tick start 0 items later item each))

-- and in the second one
pub came-moment : (tick start : ℕ) (items : List Item) (later : List ℕ) (item : Item) (t : Ticker) (moment : ℕ) → length later ≡ length items → t ≡ ticker_at tick start later
    → came (events tick (items ++ item ∷ []) (start ∷ later)) ++ came (due_at t moment) ≡ came (events tick (items ++ item ∷ []) (start ∷ (later ++ moment ∷ [])))
came-moment tick start items later item t moment each is =
    ap (λ (v : Ticker). came (events tick (items ++ item ∷ []) (start ∷ later)) ++ came (due_at v moment)) is
    ∙ came-more (events tick (items ++ item ∷ []) (start ∷ later)) (due_at (ticker_at tick start later) moment)
    ∙ ap came (ap (λ (es : List Event). es ++ due_at (ticker_at tick start later) moment) (heard-item tick start 0 items later item each)
    ∙ append_assoc (events tick items (start ∷ later)) (event_of item ∷ []) (due_at (ticker_at tick start later) moment)
    ∙ sym (heard-round tick start 0 items later item moment each))

pub came-tick : (tick start : ℕ) (items : List Item) (later : List ℕ) (item : Item) (t : Ticker) (moment : ℕ) → length later ≡ length items → t ≡ ticker_at tick start later → due_at t moment ≡ Tick ∷ []
    → came (events tick (items ++ item ∷ []) (start ∷ later)) ++ Came Tick ∷ [] ≡ came (events tick (items ++ item ∷ []) (start ∷ (later ++ moment ∷ [])))
came-tick tick start items later item t moment each is is_due =
    ap (λ (es : List Event). came (events tick (items ++ item ∷ []) (start ∷ later)) ++ came es) (sym is_due) ∙ came-moment tick start items later item t moment each is

-- turns after the end, where the first of them is told apart
pub closed-first : (n : ℕ) (hs : List Happening) → (hs ++ Closing ∷ []) ++ closed n [] ≡ closed n hs ++ Closing ∷ []
closed-first zero hs = append-nil (hs ++ Closing ∷ [])
closed-first (suc n) hs =
    sym (append_assoc (hs ++ Closing ∷ []) (closed n []) (Closing ∷ [])) ∙ ap (λ (l : List Happening). l ++ Closing ∷ []) (closed-first n hs)

pub asked-item : (item : Item) (items : List Item) (moments : List ℕ) → NotAskedAfterLast items moments → AskedBefore (Came (event_of item)) items moments
asked-item (ADatagram d) items moments same = same
asked-item NoDatagram items moments same = same

pub one-more : {A : Type 0} (xs : List A) (x : A) → length (xs ++ x ∷ []) ≡ length xs + 1
one-more xs x = omega (arith, length-append xs (x ∷ []))
