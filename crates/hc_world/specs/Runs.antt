-- The world over runs of its group.
use Rattle.std.specs.Prelude.{◌≡◌, List, ◌++◌, Option, Some}
use Rattle.hc_run.specs.Group.{Group}
use Rattle.hc_run.specs.Runs.{IsRun, run}
use Rattle.hc_run.specs.ServesOn.{ServesOn}
use Rattle.hc_run.specs.State.{GroupState}
use Rattle.hc_world.specs.declared.event.WorldEvent.{WorldEvent}
use Rattle.hc_world.specs.Events.{events_of}
use Rattle.hc_world.specs.Seen.{Seen, seen}

-- the state of a group after events of its world
abbrev pub run_of : Group → List WorldEvent → GroupState
run_of g events = run g (events_of 0 events)

-- a world shows the run of these events
pub record ShowsRun (g : Group) (events : List WorldEvent) (world : Option Seen) : Type 0 where
  pub possible : IsRun g (events_of 0 events)
  pub seen : world ≡ Some (seen g (run_of g events))

-- at each moment of these events, from the beginning to their end, the group serves as one thread, by a list that only grew
abbrev pub ServesThroughout : Group → List WorldEvent → Type 0
ServesThroughout g events = (earlier later : List WorldEvent) → earlier ++ later ≡ events → ServesOn g (events_of 0 earlier)
