-- Counting: how far the logs of enough members go.
use Rattle.std.specs.Prelude.{ℕ, ◌≤◌, nat_le, max, List, count_by, filter, fold}

-- how many of the numbers reach a number
abbrev pub reaching : List ℕ → ℕ → ℕ
reaching reached m = count_by (λ n. nat_le m n) reached

-- the greatest of the numbers that so many of them reach
unfoldable pub counted : List ℕ → ℕ → ℕ
counted reached need = fold max 0 (filter (λ m. nat_le need (reaching reached m)) reached)

-- an index is the greatest that so many of the numbers reach
pub record IsCounted (reached : List ℕ) (need m : ℕ) : Type 0 where
  pub reached_by : need ≤ reaching reached m
  pub greatest : (other : ℕ) → need ≤ reaching reached other → other ≤ m
