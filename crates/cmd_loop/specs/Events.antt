-- The events of a loop: what it received, and the ticks that its moments make due.
use Rattle.std.specs.Prelude.{ℕ, ◌-◌, ◌/◌, max, nat_lt, if◌then◌else◌, List, [], ◌∷◌, ◌++◌}
use Rattle.r2_base.specs.declared.event.Event.{Event}
use Rattle.r2_base.specs.declared.event.Event.TheVariants.{Datagram as DatagramEvent, Tick, Quiet as QuietEvent}
use Rattle.r2_link.specs.declared.lane.Item.{Item}
use Rattle.r2_link.specs.declared.lane.Item.TheVariants.{Datagram as ADatagram, Quiet as NoDatagram}

-- the event of what was received
abbrev pub event_of : Item → Event
event_of (ADatagram d) = DatagramEvent d
event_of NoDatagram = QuietEvent

-- how many whole ticks lie between the start and a moment; a moment before the start counts as the start
unfoldable pub elapsed : ℕ → ℕ → ℕ → ℕ
elapsed tick start moment = (moment - start) / tick

-- one tick where more whole ticks have gone by than at the last one
abbrev pub due : ℕ → ℕ → List Event
due last now = if nat_lt last now then Tick ∷ [] else []

-- the whole ticks that have gone by at the latest of these moments, or before them
unfoldable pub reached : ℕ → ℕ → ℕ → List ℕ → ℕ
reached tick start last [] = last
reached tick start last (moment ∷ more) = reached tick start (max last (elapsed tick start moment)) more

-- the events of these items, each followed by the tick that is due at the moment after it
unfoldable pub heard : ℕ → ℕ → ℕ → List Item → List ℕ → List Event
heard tick start last [] moments = []
heard tick start last (item ∷ items) [] = event_of item ∷ heard tick start last items []
heard tick start last (item ∷ items) (moment ∷ moments) =
    event_of item ∷ due last (elapsed tick start moment) ++ heard tick start (max last (elapsed tick start moment)) items moments

-- the events of a loop, whose first moment is the start
abbrev pub events : ℕ → List Item → List ℕ → List Event
events tick items [] = []
events tick items (start ∷ moments) = heard tick start 0 items moments
