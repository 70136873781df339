use Rattle.cmd_simulate.proofs.RunsOn.{simulations-serve}
use Rattle.cmd_simulate.proofs.laws.simulations_serve_as_one.Goals as goal

pub returns : goal.returns
returns c = simulations-serve
