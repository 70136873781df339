-- So many turns were had, and there are two servers.
use Rattle.std.proofs.Common.{◌≡◌, length}
use Rattle.r2_jbsq.specs.State.{HadTurns}
use Rattle.r2_jbsq.proofs.tests.is_right.Given as goal

abbrev pub invariant-lines : goal.invariant-lines
invariant-lines l = record { turns : HadTurns l.i l.router; servers : length l.router.setup.servers ≡ 2 }
