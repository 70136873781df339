-- A step of a group that runs is a list of the protocol's rules, and so is a run.
use Rattle.std.specs.Prelude.{ℕ, List, length, slice_index_or}
use Rattle.hc_rules.specs.Protocol.{ProtocolState, beginning as protocol_beginning}
use Rattle.hc_rules.specs.Rules.{Rule}
use Rattle.hc_rules.specs.Runs.{AllAllowed, IsRun as IsRunOfRules, after_rules, state_after}
use Rattle.hc_run.specs.Group.{Group, IsGroup}
use Rattle.hc_run.specs.State.{GroupState, beginning}
use Rattle.hc_run.specs.Events.{GroupEvent, IsPossible}
use Rattle.hc_run.specs.Steps.{step}
use Rattle.hc_run.specs.Runs.{IsRun, run}
use Rattle.hc_run.specs.Shows.{Shows}

-- Steps --

-- allowed rules lead from a state of the protocol to one that shows a group
pub record LeadsTo (g : Group) (w : ProtocolState) (s : GroupState) : Type 0 where
  pub rules : List Rule
  pub allowed : AllAllowed w rules
  pub shown : Shows g (after_rules w rules) s

-- so it is with what an event comes to
abbrev pub IsStepRules : Group → ProtocolState → GroupState → GroupEvent → Type 0
IsStepRules g w s e = LeadsTo g w (step g s e)

-- each event that is possible in a state that the protocol's shows is a list of allowed rules
abbrev pub StepsAreRules : Type 0
StepsAreRules =
    (g : Group) (w : ProtocolState) (s : GroupState) (e : GroupEvent) → IsGroup g → Shows g w s → IsPossible g s e → IsStepRules g w s e

-- Runs --

-- how many entries each member may be given, by the group's bounds
abbrev pub bounds_of : Group → ℕ → ℕ
bounds_of g p = slice_index_or g.bounds p 0

-- the protocol as it begins, with the size and the bounds of a group
abbrev pub protocol_of : Group → ProtocolState
protocol_of g = protocol_beginning (length g.members) (bounds_of g)

-- it shows the group as that begins
abbrev pub BeginningIsShown : Type 0
BeginningIsShown = (g : Group) → IsGroup g → Shows g (protocol_of g) (beginning g)

-- a run of the protocol's rules, after which its state shows the group after a run of events
pub record HasRules (g : Group) (events : List GroupEvent) : Type 0 where
  pub rules : List Rule
  pub are : IsRunOfRules (length g.members) (bounds_of g) rules
  pub shown : Shows g (state_after (length g.members) (bounds_of g) rules) (run g events)

-- each run of each group has one
abbrev pub RunsAreRules : Type 0
RunsAreRules = (g : Group) (events : List GroupEvent) → IsGroup g → IsRun g events → HasRules g events
