use Rattle.std.proofs.Common.{length}
use Rattle.cmd_router.proofs.sharing.+some_spent.Given as goal

abbrev pub decreases-some_spent : goal.decreases-some_spent
decreases-some_spent g l = length l.seats.now
