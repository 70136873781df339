use Rattle.std.proofs.Common.{arith}
use Rattle.cmd_router.proofs.sharing.totals_of.Goals as goal

-- no pass is missing
pub unreachable-requires : goal.unreachable-requires
unreachable-requires g c =
    let told = rw c.in-Missing.is at c.in-Err.ensures.fault in
    omega (arith, told.0, told.1, told.2, c.requires)
