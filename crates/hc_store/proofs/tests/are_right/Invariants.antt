-- Each row counts one request at most.
use Rattle.std.proofs.Common.{◌+◌}
use Rattle.hc_store.specs.State.{IsCountedBelow}
use Rattle.hc_store.proofs.tests.are_right.Given as goal

abbrev pub invariant-rows : goal.invariant-rows
invariant-rows g l = IsCountedBelow (l.kind-index + 1) (g.V.Service.state l.service)
