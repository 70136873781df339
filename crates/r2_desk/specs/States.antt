-- What a router's book and a pass are at a moment.
use Rattle.std.specs.Prelude.{ℕ, List}
use Rattle.r2_jbsq.specs.State.{RouterState}
use Rattle.r2_desk.specs.declared.step.Step.{Step}
use Rattle.r2_desk.specs.declared.totals.Totals.{Totals}

-- a router, how many turns were made on it, and its first turns in order
pub record BookState : Type 0 where
  pub router : RouterState
  pub turns : ℕ
  pub trail : List Step

-- which pass it is, the number of its last turn, what its turns added to the book's counts, how many requests may be open on its
-- account, and its own ones among the first turns
pub record PassState : Type 0 where
  pub number : ℕ
  pub seen : ℕ
  pub made : Totals
  pub slots : ℕ
  pub own : List Step
