use Rattle.cmd_group.proofs.Examples.{is_worked}
use Rattle.cmd_group.proofs.laws.a_worked_merge.Goals as goal

pub returns : goal.returns
returns c = is_worked
