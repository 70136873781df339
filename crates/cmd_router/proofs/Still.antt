-- Where the time stands still no tick is due: the events of a loop are those of its items.
use Rattle.std.proofs.Common.{◌≡◌, ◌≤◌, ℕ, zero, suc, List, [], ◌∷◌, length, Some, refl, ap, ◌∙◌, append-nil, arith}
use Rattle.std.specs.Prelude.{map}
use Rattle.r2_base.specs.declared.event.Event.{Event}
use Rattle.r2_link.specs.declared.lane.Item.{Item}
use Rattle.r2_link.specs.Moments.{Tells}
use Rattle.cmd_loop.specs.Events.{elapsed, event_of, events, heard}
use Rattle.cmd_loop.specs.Happenings.{Happening, Closing, came, closed, events_of}
use Rattle.cmd_loop.specs.Plain.{events_of_more}

pub events_of-came : (es : List Event) → events_of (came es) ≡ es
events_of-came [] = refl
events_of-came (e ∷ es) = ap (λ (l : List Event). e ∷ l) (events_of-came es)

pub events_of-closed : (n : ℕ) (hs : List Happening) → events_of (closed n hs) ≡ events_of hs
events_of-closed zero hs = refl
events_of-closed (suc n) hs = events_of_more (closed n hs) (Closing ∷ []) ∙ append-nil (events_of (closed n hs)) ∙ events_of-closed n hs

-- the moments that a clock tells which stands still
abbrev AreZero : List ℕ → Type 0
AreZero [] = Unit {0}
AreZero (moment ∷ moments) = (moment ≡ 0) × AreZero moments

zeros : (moments : List ℕ) → Tells (Some (0 ∷ [])) (Some (0 ∷ [])) moments → AreZero moments
zeros [] told = tt
zeros (moment ∷ moments) told = (told.0, zeros moments told.1)

-- no tick goes by
none-elapsed : (tick : ℕ) → 1 ≤ tick → elapsed tick 0 0 ≡ 0
unfolding elapsed
none-elapsed tick some = omega (arith, some)

heard-still : (tick : ℕ) → 1 ≤ tick → (items : List Item) (moments : List ℕ) → AreZero moments → heard tick 0 0 items moments ≡ map event_of items
unfolding heard
heard-still tick some [] moments still = refl
heard-still tick some (item ∷ items) [] still = ap (λ (l : List Event). event_of item ∷ l) (heard-still tick some items [] tt)
heard-still tick some (item ∷ items) (moment ∷ moments) still =
    rw (still.0, none-elapsed tick some) (ap (λ (l : List Event). event_of item ∷ l) (heard-still tick some items moments still.1))

pub events-still : (tick : ℕ) → 1 ≤ tick → (items : List Item) (moments : List ℕ) → Tells (Some (0 ∷ [])) (Some (0 ∷ [])) moments → length items ≤ length moments
    → events tick items moments ≡ map event_of items
events-still tick some [] [] told few = refl
events-still tick some (item ∷ items) [] told few = absurd (omega (arith, few))
events-still tick some items (moment ∷ moments) told few = rw told.0 (heard-still tick some items moments (zeros moments told.1))
