-- A group that runs serves as one thread, by the list that its members agree on, and goes on with that list.
use Rattle.std.specs.Prelude.{◌≡◌, List, ◌++◌, length}
use Rattle.r2_base.specs.declared.entry.Entry.{Entry}
use Rattle.hc_rules.specs.Agreed.{agreed}
use Rattle.hc_rules.specs.Runs.{state_after}
use Rattle.hc_run.specs.Group.{Group, IsGroup}
use Rattle.hc_run.specs.Events.{GroupEvent}
use Rattle.hc_run.specs.AsOne.{ServesAsOne}
use Rattle.hc_run.specs.OneList.{IsPrefixOf, ListGrows}
use Rattle.hc_run.specs.Runs.{IsRun, run}
use Rattle.hc_run.specs.StepLaws.{HasRules, bounds_of}

-- the list that the group agrees on, by the protocol's rules that the events of a run come to
abbrev pub agreed_by : (g : Group) (events : List GroupEvent) → HasRules g events → List Entry
agreed_by g events has = agreed (state_after (length g.members) (bounds_of g) has.rules)

-- a run is one of the protocol's rules, and what was applied in it is a prefix of the agreed list, whichever rules show the run
pub record AppliesAgreed (g : Group) (events : List GroupEvent) : Type 0 where
  pub rules : HasRules g events
  pub prefix : (has : HasRules g events) → IsPrefixOf (run g events) (agreed_by g events has)

-- the list of what was applied begins with what it was after each earlier part of the run
abbrev pub GoesOn : Group → List GroupEvent → Type 0
GoesOn g events = (earlier later : List GroupEvent) → earlier ++ later ≡ events → ListGrows (run g earlier) (run g events)

-- after a run a group serves as one thread by the list of what was applied; this is a prefix of the list that its members agree on, and
-- it only grew
pub record ServesOn (g : Group) (events : List GroupEvent) : Type 0 where
  pub serves : ServesAsOne g (run g events)
  pub agreed : AppliesAgreed g events
  pub grows : GoesOn g events

-- so each group does after each run
abbrev pub GroupsServeOn : Type 0
GroupsServeOn = (g : Group) (events : List GroupEvent) → IsGroup g → IsRun g events → ServesOn g events
