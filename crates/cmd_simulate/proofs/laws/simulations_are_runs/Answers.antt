use Rattle.std.proofs.Common.{◌+◌}
use Rattle.cmd_simulate.specs.Generator.{generated, more_rounds}
use Rattle.cmd_simulate.proofs.RunsOn.{goes-rounds}
use Rattle.cmd_simulate.proofs.laws.simulations_are_runs.Goals as goal

pub returns : goal.returns
unfolding generated
returns c = λ plan planned. (goes-rounds plan (plan.requests + more_rounds) planned).shows.possible
