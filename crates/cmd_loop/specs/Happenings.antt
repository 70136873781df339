-- What happens to a party in a loop.
use Rattle.std.specs.Prelude.{ℕ, suc, zero, List, [], ◌∷◌, ◌++◌, map}
use Rattle.r2_base.specs.declared.event.Event.{Event}
use Rattle.r2_link.specs.declared.lane.Item.{Item}
use Rattle.cmd_loop.specs.Events.{events}

-- an event comes, at which a turn is made; or a turn is made after the end of the link, at which nothing comes
pub data Happening : Type 0 where
  Came : Event → Happening
  Closing : Happening

-- these events come
abbrev pub came : List Event → List Happening
came es = map Came es

-- so many turns more are made after the end
abbrev pub closed : ℕ → List Happening → List Happening
closed zero hs = hs
closed (suc n) hs = closed n hs ++ Closing ∷ []

-- what happens in a loop that takes in these items and moments, and makes so many turns after the end of its link
abbrev pub happenings : ℕ → List Item → List ℕ → ℕ → List Happening
happenings tick items moments closings = closed closings (came (events tick items moments))

-- the events that come
abbrev pub events_of : List Happening → List Event
events_of [] = []
events_of (Came event ∷ more) = event ∷ events_of more
events_of (Closing ∷ more) = events_of more
