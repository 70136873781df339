-- So many turns were had.
use Rattle.r2_server.specs.Sound.{HadTurns}
use Rattle.r2_server.proofs.tests.is_sent_by.Given as goal

abbrev pub invariant-lines : goal.invariant-lines
invariant-lines l = HadTurns l.i l.server
