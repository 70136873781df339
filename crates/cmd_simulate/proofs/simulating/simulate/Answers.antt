use Rattle.cmd_simulate.proofs.RunsOn.{simulations-serve}
use Rattle.cmd_simulate.proofs.simulating.simulate.Goals as goal

pub returns-in_default-clause-serves : goal.returns-in_default-clause-serves
returns-in_default-clause-serves g c = simulations-serve c.args.plan c.requires

pub returns-in-Ok-write_all-clause-serves : goal.returns-in-Ok-write_all-clause-serves
returns-in-Ok-write_all-clause-serves g c = simulations-serve c.args.plan c.requires

pub returns-clause-serves : goal.returns-clause-serves
returns-clause-serves g c = simulations-serve c.args.plan c.requires
