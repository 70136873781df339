use Rattle.std.proofs.Common.{◌≡◌, ◌++◌, take}
use Rattle.hc_log.specs.Log.{IsWithinLimits, FollowEach}
use Rattle.hc_log.specs.Totals.{totals_of}
use Rattle.hc_log.proofs.checks.follow_each.Given as goal

abbrev pub invariant-entries : goal.invariant-entries
invariant-entries l = record {
  counted : l.totals ≡ totals_of (take l.keep l.log ++ take l.i l.entries);
  limits : IsWithinLimits (take l.keep l.log ++ take l.i l.entries);
  each : FollowEach (take l.keep l.log) (take l.i l.entries);
}
