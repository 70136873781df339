-- Where the time stands still no tick is due: the events of a loop are those of its items.
use Rattle.std.proofs.Common.{◌≡◌, ◌≤◌, ℕ, List, [], ◌∷◌, length, Some, refl, ap, arith}
use Rattle.std.specs.Prelude.{map}
use Rattle.r2_base.specs.declared.event.Event.{Event}
use Rattle.r2_link.specs.declared.lane.Item.{Item}
use Rattle.r2_link.specs.Moments.{Tells}
use Rattle.cmd_loop.specs.Events.{elapsed, event_of, events, heard}

-- the moments that a clock tells which stands still
abbrev AreZero : List ℕ → Type 0
AreZero [] = Unit {0}
AreZero (moment ∷ moments) = (moment ≡ 0) × AreZero moments

zeros : (moments : List ℕ) → Tells (Some (0 ∷ [])) (Some (0 ∷ [])) moments → AreZero moments
zeros [] told = tt
zeros (moment ∷ moments) told = (told.0, zeros moments told.1)

heard-still : (items : List Item) (moments : List ℕ) → AreZero moments → heard 1000 0 0 items moments ≡ map event_of items
unfolding heard elapsed
heard-still [] moments still = refl
heard-still (item ∷ items) [] still = ap (λ (l : List Event). event_of item ∷ l) (heard-still items [] tt)
heard-still (item ∷ items) (moment ∷ moments) still = rw still.0 (ap (λ (l : List Event). event_of item ∷ l) (heard-still items moments still.1))

pub events-still : (items : List Item) (moments : List ℕ) → Tells (Some (0 ∷ [])) (Some (0 ∷ [])) moments → length items ≤ length moments
    → events 1000 items moments ≡ map event_of items
events-still [] [] told few = refl
events-still (item ∷ items) [] told few = absurd (omega (arith, few))
events-still items (moment ∷ moments) told few = rw told.0 (heard-still items moments (zeros moments told.1))
