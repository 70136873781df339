-- What the passes of a desk come to at its end.
use Rattle.std.specs.Prelude.{◌≡◌, ℕ, ◌+◌, ◌<◌, ◌≤◌, List, [], length, slice_index_or, sum_by, take}
use Rattle.std.specs.List.{All}
use Rattle.r2_jbsq.specs.declared.router_setup.RouterSetup.{RouterSetup}
use Rattle.r2_jbsq.specs.State.{slots_of}
use Rattle.r2_desk.specs.declared.step.Step.{Step}
use Rattle.r2_desk.specs.declared.totals.Totals.{Totals}
use Rattle.r2_desk.specs.States.{PassState}
use Rattle.r2_desk.specs.Trails.{HasLength, IsRight, steps_of}

-- the totals are the sums over the passes, no more requests are open than the passes have slots, and the steps are a right trail
-- of some router that has these slots
pub record Settles (most : ℕ) (passes : List PassState) (totals : Totals) (steps : List Step) : Type 0 where
  pub turns : totals.turns ≡ sum_by (λ (p : PassState). p.made.turns) passes
  pub accepted : totals.accepted ≡ sum_by (λ (p : PassState). p.made.accepted) passes
  pub forwarded : totals.forwarded ≡ sum_by (λ (p : PassState). p.made.forwarded) passes
  pub answered : totals.answered ≡ sum_by (λ (p : PassState). p.made.answered) passes
  pub bounded : totals.forwarded ≤ totals.answered + sum_by (λ (p : PassState). p.slots) passes
  pub setup : RouterSetup
  pub slots : slots_of setup ≡ sum_by (λ (p : PassState). p.slots) passes
  pub right : IsRight setup [] 1 steps
  pub long : HasLength steps totals.turns most

-- the own list of a pass is that of its steps in the trail
abbrev pub HasItsOwn : List Step → PassState → Type 0
HasItsOwn steps p = p.own ≡ steps_of p.number steps

-- the pass at this place is the first whose own list is another
pub record IsFirstOther (steps : List Step) (passes : List PassState) (place : ℕ) : Type 0 where
  pub inside : place < length passes
  pub before : All (HasItsOwn steps) (take place passes)
  pub other : (p : PassState) → HasItsOwn steps (slice_index_or passes place p) → ⊥

-- this is the number and this the own list of the pass at this place
pub record IsAt (passes : List PassState) (place pass : ℕ) (own : List Step) : Type 0 where
  pub number : (p : PassState) → pass ≡ (slice_index_or passes place p).number
  pub list : (p : PassState) → own ≡ (slice_index_or passes place p).own

-- this is the number and this the own list of the first pass whose own list isn't that of its steps in the trail
pub record TellsFirstOther (steps : List Step) (passes : List PassState) (pass : ℕ) (own : List Step) : Type 0 where
  pub place : ℕ
  pub first : IsFirstOther steps passes place
  pub told : IsAt passes place pass own
