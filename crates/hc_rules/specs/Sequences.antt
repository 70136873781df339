-- Lists of rules, one after another.
use Rattle.std.specs.Prelude.{◌≡◌, ℕ, List, [], ◌∷◌, ◌++◌, length}
use Rattle.hc_rules.specs.Agreed.{agreed}
use Rattle.hc_rules.specs.Kept.{Kept}
use Rattle.hc_rules.specs.Log.{Share}
use Rattle.hc_rules.specs.Parts.{Grows, IsOther, member_of}
use Rattle.hc_rules.specs.Protocol.{ProtocolState}
use Rattle.hc_rules.specs.Replies.{Answered}
use Rattle.hc_rules.specs.Rules.{Rule}
use Rattle.hc_rules.specs.Runs.{AllAllowed, IsRun, after_rules, state_after}

-- steps after others lead on from where those led
abbrev pub StepsFollowSteps : Type 0
StepsFollowSteps =
    (w : ProtocolState) (first more : List Rule) → after_rules w (first ++ more) ≡ after_rules (after_rules w first) more

-- steps are allowed, and steps after them where those led: then all of them are allowed
abbrev pub AllowedInParts : Type 0
AllowedInParts =
    (w : ProtocolState) (first more : List Rule) → AllAllowed w first → AllAllowed (after_rules w first) more
    → AllAllowed w (first ++ more)

-- and the other way round
abbrev pub PartsAreAllowed : Type 0
PartsAreAllowed =
    (w : ProtocolState) (first more : List Rule) → AllAllowed w (first ++ more)
    → AllAllowed w first × AllAllowed (after_rules w first) more

-- a run goes on by steps that are allowed where it led
abbrev pub RunsGoOn : Type 0
RunsGoOn =
    (members : ℕ) (bounds : ℕ → ℕ) (rules more : List Rule) → IsRun members bounds rules
    → AllAllowed (state_after members bounds rules) more → IsRun members bounds (rules ++ more)

-- no steps change the size of the group, or a bound
pub record IsSameGroup (w x : ProtocolState) : Type 0 where
  pub size : x.size ≡ w.size
  pub bound : x.bound ≡ w.bound

-- whatever they are
abbrev pub GroupsStayTheSame : Type 0
GroupsStayTheSame = (w : ProtocolState) (rules : List Rule) → IsSameGroup w (after_rules w rules)

-- steps that are allowed keep every fact
abbrev pub SequencesKeep : Type 0
SequencesKeep = (w : ProtocolState) (rules : List Rule) → Kept w → AllAllowed w rules → Kept (after_rules w rules)

-- and what replies and bounds rest on
abbrev pub SequencesAnswer : Type 0
SequencesAnswer =
    (w : ProtocolState) (rules : List Rule) → Kept w → Answered w → AllAllowed w rules → Answered (after_rules w rules)

-- what was sent, granted, won, learnt, applied or answered stays, and terms, books and the table only grow
abbrev pub SequencesOnlyAdd : Type 0
SequencesOnlyAdd = (w : ProtocolState) (rules : List Rule) → Kept w → AllAllowed w rules → Grows w (after_rules w rules)

-- the agreed list only grows
abbrev pub AgreedGrowsOn : Type 0
AgreedGrowsOn =
    (w : ProtocolState) (rules : List Rule) → Kept w → AllAllowed w rules
    → Share (length (agreed w)) (agreed w) (agreed (after_rules w rules))

-- none of the steps is a member's
abbrev pub AreOthers : ℕ → List Rule → Type 0
AreOthers u [] = Unit {0}
AreOthers u (r ∷ more) = IsOther u r × AreOthers u more

-- then they leave it as it was
abbrev pub SequencesSpareOthers : Type 0
SequencesSpareOthers =
    (w : ProtocolState) (rules : List Rule) (u : ℕ) → AreOthers u rules → member_of (after_rules w rules) u ≡ member_of w u
