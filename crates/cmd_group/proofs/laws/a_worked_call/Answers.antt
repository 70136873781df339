use Rattle.cmd_group.proofs.ClientExamples.{is_worked_call}
use Rattle.cmd_group.proofs.laws.a_worked_call.Goals as goal

pub returns : goal.returns
returns c = is_worked_call
