use Rattle.std.proofs.Common.{◌≡◌, ◌++◌, take}
use Rattle.hc_log.proofs.durable.replace_behind.Given as goal

abbrev pub invariant-entries : goal.invariant-entries
invariant-entries l = l.log ≡ take l.keep l.fn.log ++ take l.s-index l.entries
