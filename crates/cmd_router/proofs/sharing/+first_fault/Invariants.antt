use Rattle.std.proofs.Common.{length}
use Rattle.cmd_router.proofs.sharing.+first_fault.Given as goal

abbrev pub decreases-first_fault : goal.decreases-first_fault
decreases-first_fault g l = length l.seats.now
