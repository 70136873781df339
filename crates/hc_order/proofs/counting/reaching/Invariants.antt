use Rattle.std.proofs.Common.{◌≡◌, ◌≤◌, take}
use Rattle.hc_order.specs.Counting.{reaching}
use Rattle.hc_order.proofs.counting.reaching.Given as goal

abbrev pub invariant-numbers : goal.invariant-numbers
invariant-numbers l = record {
  few : l.count ≤ l.number-index;
  same : l.count ≡ reaching (take l.number-index l.reached) l.least;
}
