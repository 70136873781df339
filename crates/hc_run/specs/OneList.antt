-- What the members of a group that runs applied is one list.
use Rattle.std.specs.Prelude.{◌≡◌, ℕ, ◌≤◌, ◌==◌, if◌then◌else◌, max, List, [], ◌∷◌, length, map, All}
use Rattle.std.specs.List.{range_with_len}
use Rattle.r2_base.specs.declared.entry.Entry.{Entry}
use Rattle.hc_log.specs.declared.stored.Stored.{Stored}
use Rattle.hc_log.specs.Log.{blank_of, metas_of, stored_at}
use Rattle.hc_rules.specs.Agreed.{HasNoneTwice, agreed}
use Rattle.hc_rules.specs.Log.{In, Share}
use Rattle.hc_rules.specs.Runs.{state_after}
use Rattle.hc_run.specs.Group.{Group, IsGroup}
use Rattle.hc_run.specs.State.{GroupState, Passed}
use Rattle.hc_run.specs.Events.{GroupEvent}
use Rattle.hc_run.specs.Held.{IsWhole}
use Rattle.hc_run.specs.Runs.{IsRun, run}
use Rattle.hc_run.specs.StepLaws.{HasRules, bounds_of}

-- what was applied at an index; where nothing was, a blank entry of term 0
abbrev pub passed_at : List Passed → ℕ → Stored
passed_at [] index = blank_of 0
passed_at (x ∷ before) index = if x.index == index then x.stored else passed_at before index

-- the greatest index at which something was applied, or 0
abbrev pub greatest_passed : List Passed → ℕ
greatest_passed [] = 0
greatest_passed (x ∷ before) = max x.index (greatest_passed before)

-- what was applied, from index 1 on, with the bodies
unfoldable pub applied_list : GroupState → List Stored
applied_list s = map (passed_at s.passed) (range_with_len 1 (greatest_passed s.passed))

-- what was applied is the list's at its index, with its body
pub record IsItsEntry (list : List Stored) (x : Passed) : Type 0 where
  pub first : 1 ≤ x.index
  pub within : x.index ≤ length list
  pub same : stored_at list x.index ≡ x.stored

-- each entry of the list was applied by some member, at its index
abbrev pub EachWasApplied : GroupState → Type 0
EachWasApplied s =
    (index : ℕ) → 1 ≤ index → index ≤ length (applied_list s)
    → (member : ℕ) × In (record { member = member; index = index; stored = stored_at (applied_list s) index }) s.passed

-- the list of what was applied in one state is a prefix of that in another
abbrev pub ListGrows : GroupState → GroupState → Type 0
ListGrows s t = Share (length (applied_list s)) (applied_list s) (applied_list t)

-- what was applied is a prefix of a list of entries, the bodies left out
abbrev pub IsPrefixOf : GroupState → List Entry → Type 0
IsPrefixOf s agreed = Share (length (applied_list s)) (metas_of (applied_list s)) agreed

-- what was applied in a group is one list, which is a prefix of the agreed one: all that any member applied in any of its lives is the
-- list's at its index, and each entry of the list was applied by some member; bodies are the table's, and no request is found twice
pub record IsOneList (s : GroupState) (agreed : List Entry) : Type 0 where
  pub each : (x : Passed) → In x s.passed → IsItsEntry (applied_list s) x
  pub only : EachWasApplied s
  pub prefix : IsPrefixOf s agreed
  pub bodies : All (IsWhole s.table) (applied_list s)
  pub once : HasNoneTwice (metas_of (applied_list s))

-- so it is after each run, with the agreed list of whatever state of the protocol shows it
abbrev pub AppliedIsOneList : Type 0
AppliedIsOneList =
    (g : Group) (events : List GroupEvent) → IsGroup g → IsRun g events → (has : HasRules g events)
    → IsOneList (run g events) (agreed (state_after (length g.members) (bounds_of g) has.rules))
