use Rattle.cmd_simulate.specs.Courses.{Tells}
use Rattle.cmd_simulate.specs.Generator.{after_rounds}
use Rattle.cmd_simulate.proofs.simulating.run.Given as goal

abbrev pub invariant-rounds : goal.invariant-rounds
invariant-rounds l = Tells l.plan (after_rounds l.plan l.number) l.simulation.world l.simulation.flight.items l.simulation.lots
