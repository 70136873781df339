use Rattle.std.proofs.Common.{◌≡◌, ◌-◌, length, take}
use Rattle.hc_log.specs.Totals.{totals_of}
use Rattle.hc_log.proofs.log.Log.totals_to.Given as goal

abbrev pub invariant-entries : goal.invariant-entries
invariant-entries l = l.totals ≡ totals_of (take (length l.self - l.n) l.self)
