use Rattle.std.proofs.Common.{◌≡◌, ◌≤◌, ◌+◌, drop, length}
use Rattle.std.specs.List.{common_prefix_len}
use Rattle.hc_order.specs.Taking.{agrees}
use Rattle.hc_order.proofs.taking.agreeing.Given as goal

-- what agrees so far, and what agrees of the rest
abbrev pub invariant-entries : goal.invariant-entries
invariant-entries l = record {
  within : l.at + l.i ≤ length l.log;
  same : common_prefix_len agrees (drop l.at l.log) l.entries
      ≡ l.i + common_prefix_len agrees (drop l.i (drop l.at l.log)) (drop l.i l.entries);
}
