-- The terms of a log's entries, as runs.
use Rattle.std.specs.Prelude.{ℕ, ◌<◌, ◌≤◌, nat_le, if◌then◌else◌, List, All, AllPairs, fold}
use Rattle.hc_log.specs.declared.runs.Run.{Run}

-- the term at an index: that of the last run that begins there or before
unfoldable pub term_in : List Run → ℕ → ℕ
term_in runs index = fold (λ term run. if nat_le run.first index then run.term else term) 0 runs

-- runs that begin one after another, from index 1 on and before this index
pub record AreRunsBefore (index : ℕ) (runs : List Run) : Type 0 where
  pub counted : All (λ run. 1 ≤ run.first) runs
  pub before : All (λ run. run.first < index) runs
  pub ascend : AllPairs (λ a b. a.first < b.first) runs
