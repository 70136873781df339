-- So many turns were had.
use Rattle.r2_server.specs.Sound.{HadTurns}
use Rattle.r2_parties.proofs.tests.served.Given as goal

abbrev pub invariant-heard : goal.invariant-heard
invariant-heard l = HadTurns l.i l.server
