-- Runs: events that follow one another from the beginning, each of them possible where it happens.
use Rattle.std.specs.Prelude.{List, [], ◌∷◌, fold}
use Rattle.hc_run.specs.Group.{Group}
use Rattle.hc_run.specs.State.{GroupState, beginning}
use Rattle.hc_run.specs.Events.{GroupEvent, IsPossible}
use Rattle.hc_run.specs.Steps.{step}

-- the state after events, from a state on
abbrev pub after_events : Group → GroupState → List GroupEvent → GroupState
after_events g s events = fold (step g) s events

-- each of the events is possible where it happens, from a state on
abbrev pub ArePossible : Group → GroupState → List GroupEvent → Type 0
ArePossible g s [] = Unit {0}
ArePossible g s (e ∷ more) = IsPossible g s e × ArePossible g (step g s e) more

-- the state after the events of a run
abbrev pub run : Group → List GroupEvent → GroupState
run g events = after_events g (beginning g) events

-- the events of a run, each possible where it happens
pub record IsRun (g : Group) (events : List GroupEvent) : Type 0 where
  pub possible : ArePossible g (beginning g) events
