-- What holds of every aggregator that can be reached.
use Rattle.std.specs.Prelude.{◌≡◌, ℕ, ◌≤◌, length, All}
use Rattle.r2_base.specs.Limits.{greatest_number}
use Rattle.hc_aggregate.specs.Group.{IsGroup}
use Rattle.hc_aggregate.specs.Tally.{Tally}
use Rattle.hc_aggregate.specs.Turn.{AggregatorState}

-- a tally of a group of this size: there is a number for each member, and all numbers are such that messages may have them
pub record IsTally (size : ℕ) (t : Tally) : Type 0 where
  pub each : length t.reached ≡ size
  pub term : t.term ≤ greatest_number
  pub start : 1 ≤ t.term → 1 ≤ t.term_start
  pub reached : All (λ index. index ≤ greatest_number) t.reached

-- and the group is one that there may be
pub record IsSound (s : AggregatorState) : Type 0 where
  pub group : IsGroup s.me s.members
  pub tally : IsTally (length s.members) s.tally
