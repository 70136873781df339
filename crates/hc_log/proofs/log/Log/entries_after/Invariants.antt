use Rattle.std.proofs.Common.{◌≡◌, take, drop}
use Rattle.hc_log.proofs.log.Log.entries_after.Given as goal

abbrev pub invariant-entries : goal.invariant-entries
invariant-entries l = l.copies.items ≡ take l.n (drop l.keep l.self)
