-- Runs: lists of steps, each of which may be made where it is made.
use Rattle.std.specs.Prelude.{ℕ, List, [], ◌∷◌}
use Rattle.hc_rules.specs.Conditions.{Allowed}
use Rattle.hc_rules.specs.Rules.{Rule, after}
use Rattle.hc_rules.specs.Protocol.{ProtocolState, beginning}

-- the state after some steps
abbrev pub after_rules : ProtocolState → List Rule → ProtocolState
after_rules w [] = w
after_rules w (r ∷ more) = after_rules (after w r) more

-- each step may be made, where a relation says when one may
abbrev pub EachMay : (ProtocolState → Rule → Type 0) → ProtocolState → List Rule → Type 0
EachMay May w [] = Unit {0}
EachMay May w (r ∷ more) = May w r × EachMay May (after w r) more

-- each step is allowed
abbrev pub AllAllowed : ProtocolState → List Rule → Type 0
AllAllowed w rules = EachMay Allowed w rules

-- the steps of a run of a group of so many members with these bounds, from the beginning on
pub record IsRun (members : ℕ) (bounds : ℕ → ℕ) (rules : List Rule) : Type 0 where
  pub allowed : AllAllowed (beginning members bounds) rules

-- the state after a run
abbrev pub state_after : ℕ → (ℕ → ℕ) → List Rule → ProtocolState
state_after members bounds rules = after_rules (beginning members bounds) rules
