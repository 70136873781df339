-- So many turns were had.
use Rattle.r2_jbsq.specs.State.{HadTurns}
use Rattle.r2_jbsq.proofs.tests.crowded.Given as goal

abbrev pub invariant-ids : goal.invariant-ids
invariant-ids l = HadTurns l.id l.router
