use Rattle.cmd_group.proofs.ClientExamples.{is_worked_asking}
use Rattle.cmd_group.proofs.laws.two_worked_clients.Goals as goal

pub returns : goal.returns
returns c = is_worked_asking
