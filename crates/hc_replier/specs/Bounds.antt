-- How many entries each member of a group may have to answer at a time.
use Rattle.std.specs.Prelude.{ℕ, ◌+◌, ◌<◌, ◌≤◌, List, length, All, Any}
use Rattle.r2_base.specs.Limits.{greatest_member}

-- the greatest number of members of a group
abbrev pub most_members : ℕ
most_members = greatest_member + 1

-- the greatest bound of a member
abbrev pub most_bound : ℕ
most_bound = 1024

-- bounds that a group may have, one for each member: none is too great, and not all are 0
pub record AreBounds (bounds : List ℕ) : Type 0 where
  pub few : length bounds ≤ most_members
  pub each : All (λ bound. bound ≤ most_bound) bounds
  pub some : Any (λ bound. 0 < bound) bounds
