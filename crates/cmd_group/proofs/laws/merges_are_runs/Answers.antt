use Rattle.cmd_group.proofs.Merges.{merges_are_runs}
use Rattle.cmd_group.proofs.laws.merges_are_runs.Goals as goal

pub returns : goal.returns
returns c = merges_are_runs
