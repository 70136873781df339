use Rattle.std.proofs.Common.{◌≡◌, ◌-◌, take, drop}
use Rattle.hc_log.specs.Log.{metas_of}
use Rattle.hc_log.proofs.log.Log.slice.Given as goal

abbrev pub invariant-entries : goal.invariant-entries
invariant-entries l = l.metas.items ≡ metas_of (take l.n (drop (l.from - 1) l.self))
