-- So many turns were had.
use Rattle.r2_jbsq.specs.State.{HadTurns}
use Rattle.r2_parties.proofs.tests.routed.Given as goal

abbrev pub invariant-heard : goal.invariant-heard
invariant-heard l = HadTurns l.i l.router
