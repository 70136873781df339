-- What several workers over one router took in, sent, and came to.
use Rattle.std.specs.Prelude.{◌≡◌, ℕ, ◌+◌, ◌*◌, ◌≤◌, List, [], ◌∷◌, ◌++◌, All, Option, Some, None, ⊤, drop, length, map, sum_by}
use Rattle.r2_base.specs.declared.datagram.Datagram.{Datagram}
use Rattle.r2_base.specs.declared.event.Event.{Event}
use Rattle.r2_link.specs.declared.lane.Item.{Item}
use Rattle.r2_link.specs.Links.{LinkTold}
use Rattle.r2_link.specs.Moments.{Tells}
use Rattle.r2_link.specs.Told.{Gains, IsKept, first_list}
use Rattle.r2_jbsq.specs.Limits.{most_servers}
use Rattle.r2_jbsq.specs.Packets.{requests_among}
use Rattle.r2_desk.specs.declared.totals.Totals.{Totals}
use Rattle.cmd_status.specs.declared.status.Status.{Status}
use Rattle.cmd_status.specs.declared.status.Status.TheVariants.{Done, TurnsSpent}
use Rattle.cmd_loop.specs.declared.pace.Pace.{Pace}
use Rattle.cmd_loop.specs.Ends.{Ends}
use Rattle.cmd_loop.specs.Events.{event_of, events}
use Rattle.cmd_router.specs.Counted.{asked_among, feedback_among, ticks_among}
use Rattle.cmd_router.specs.Workers.{end_of}

-- what one worker received, the events whose turns it made, what it sent, and how it ended
pub record Work : Type 0 where
  pub items : List Item
  pub events : List Event
  pub sends : List Datagram
  pub ended : Status

-- it received all that came, or as often as it may
abbrev pub EndsWell : ℕ → List Item → Status → Type 0
EndsWell turns items Done = ⊤
EndsWell turns items TurnsSpent = length items ≡ turns
EndsWell turns items _ = ⊥

-- all that was sent, worker by worker
abbrev pub all_sent : List Work → List Datagram
all_sent [] = []
all_sent (w ∷ more) = w.sends ++ all_sent more

-- a worker received a prefix of a lane, and all of it where it came to its end
pub record TakesLane (lane : List Item) (w : Work) : Type 0 where
  pub rest : List Item
  pub taken : lane ≡ w.items ++ rest
  pub all : w.ended ≡ Done → rest ≡ []

-- each worker the next of these lanes, or an empty one where none is left
abbrev pub TakeLanes : List (List Item) → List Work → Type 0
TakeLanes lanes [] = ⊤
TakeLanes lanes (w ∷ more) = TakesLane (first_list lanes) w × TakeLanes (drop 1 lanes) more

-- so it is where the lanes are told, and then as many are told no more
abbrev pub TakeToldLanes : Option (List (List Item)) → Option (List (List Item)) → List Work → Type 0
TakeToldLanes None new works = ⊤
TakeToldLanes (Some lanes) None works = ⊥
TakeToldLanes (Some lanes) (Some left) works = TakeLanes lanes works × (left ≡ drop (length works) lanes)

-- the first worker's events are those of its items and of the ticks that its clock made due, the others' those of their items alone
pub record AreTimed (pace : Pace) (clock clock' : Option (List ℕ)) (first : Work) (others : List Work) : Type 0 where
  pub moments : List ℕ
  pub told : Tells clock clock' moments
  pub timed : first.events ≡ events pace.tick_ms first.items moments
  pub untimed : All (λ (w : Work). w.events ≡ map event_of w.items) others

-- the totals of a router before such servers that workers shared: each event was a turn, no more requests were accepted than asked for,
-- and answered than there was feedback; no more are open than there are slots, and each that was forwarded was sent, and again at most
-- once for each server at a tick
pub record CountAll (slots : ℕ) (works : List Work) (totals : Totals) : Type 0 where
  pub turns : totals.turns ≡ sum_by (λ (w : Work). length w.events) works
  pub accepted : totals.accepted ≤ sum_by (λ (w : Work). asked_among w.events) works
  pub answered : totals.answered ≤ sum_by (λ (w : Work). feedback_among w.events) works
  pub forwarded : totals.forwarded ≤ totals.answered + slots
  pub sent : totals.forwarded ≤ requests_among (all_sent works)
  pub repeats : requests_among (all_sent works) ≤ totals.forwarded + most_servers * sum_by (λ (w : Work). ticks_among w.events) works

-- so many workers ran, each on its twin of a link, and all came to their ends
pub record WorkTogether (workers : ℕ) (pace : Pace) (old new : LinkTold) (clock clock' : Option (List ℕ)) (first : Work) (others : List Work) (ended : Status) : Type 0 where
  pub all : length others + 1 ≡ workers
  pub well : All (λ (w : Work). EndsWell pace.turns w.items w.ended) (first ∷ others)
  pub lanes : TakeToldLanes old.lanes new.lanes (first ∷ others)
  pub timed : AreTimed pace clock clock' first others
  pub sent : Gains old.sent new.sent (all_sent (first ∷ others))
  pub left : IsKept old.left new.left
  pub me : new.me ≡ old.me
  pub end : ended ≡ end_of (map (λ (w : Work). w.ended) (first ∷ others))

-- they did so over one router that has so many slots
pub record SharesRouter (slots workers : ℕ) (pace : Pace) (old new : Ends) (totals : Totals) (ended : Status) : Type 0 where
  pub first : Work
  pub others : List Work
  pub work : WorkTogether workers pace old.link new.link old.clock new.clock first others ended
  pub counts : CountAll slots (first ∷ others) totals
