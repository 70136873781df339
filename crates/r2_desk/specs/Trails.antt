-- The trail of a desk: the first turns of its router, in order.
use Rattle.std.specs.Prelude.{◌≡◌, ℕ, ◌+◌, ◌≤◌, ◌==◌, nat_lt, if◌then◌else◌, List, [], ◌∷◌, ◌++◌, filter, length, map}
use Rattle.r2_base.specs.declared.event.Event.{Event}
use Rattle.r2_jbsq.specs.declared.router_setup.RouterSetup.{RouterSetup}
use Rattle.r2_jbsq.specs.Answer.{answer, history_after, marks}
use Rattle.r2_jbsq.specs.History.{Mark}
use Rattle.r2_jbsq.specs.State.{RouterState, StandsFor}
use Rattle.r2_desk.specs.declared.step.Step.{Step}
use Rattle.r2_desk.specs.States.{BookState}
use Rattle.r2_desk.specs.Counts.{Amounts, counts_of}

abbrev pub events_of : List Step → List Event
events_of steps = map (λ (s : Step). s.event) steps

-- the history of a router to whose events these steps were added
abbrev pub history_of : RouterSetup → List Mark → List Step → List Mark
history_of setup history steps = history_after setup history (events_of steps)

-- the numbers of the steps are this one and those that come next, and each step's sends are what its event comes to after the
-- steps before it
abbrev pub IsRight : RouterSetup → List Mark → ℕ → List Step → Type 0
IsRight setup history n [] = Unit {0}
IsRight setup history n (s ∷ rest) =
    (s.number ≡ n) × (s.sends ≡ answer setup history s.event) × IsRight setup (history ++ marks setup history s.event) (n + 1) rest

-- as many steps as turns were made, up to the most
pub record HasLength (steps : List Step) (turns most : ℕ) : Type 0 where
  pub all : turns ≤ most → length steps ≡ turns
  pub full : most ≤ turns → length steps ≡ most

-- the steps are the first turns of this router, from its first one on; as long as all turns are among them, the router stands for
-- their history
pub record IsTrailOf (router : RouterState) (turns most : ℕ) (steps : List Step) : Type 0 where
  pub right : IsRight router.setup [] 1 steps
  pub long : HasLength steps turns most
  pub stands : turns ≤ most → StandsFor router (history_of router.setup [] steps)

-- one step more, where there is room for it
abbrev pub noted : List Step → ℕ → ℕ → Step → List Step
noted steps turns most s = if nat_lt turns most then steps ++ s ∷ [] else steps

-- the steps of a pass
abbrev pub steps_of : ℕ → List Step → List Step
steps_of number steps = filter (λ (s : Step). s.pass == number) steps

-- what holds of a book: its ledgers count its turns, its slots and its router's requests, each of its turns was one of the router,
-- and its trail is the router's
pub record IsBook (b : BookState) (most : ℕ) (books : Amounts) : Type 0 where
  pub counted : books ≡ counts_of b
  pub turned : b.router.turns ≡ b.turns
  pub trail : IsTrailOf b.router b.turns most b.trail
