use Rattle.std.proofs.Common.{◌≡◌, take}
use Rattle.hc_order.specs.Taking.{missing}
use Rattle.hc_order.proofs.taking.missing.Given as goal

abbrev pub invariant-entries : goal.invariant-entries
invariant-entries l = l.ids.items ≡ missing l.log l.pool (take l.e-index l.entries)
