use Rattle.cmd_group.proofs.Loops.{loops_are_runs}
use Rattle.cmd_group.proofs.laws.loops_are_runs.Goals as goal

pub returns : goal.returns
returns c = loops_are_runs
