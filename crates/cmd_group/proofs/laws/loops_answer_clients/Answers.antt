use Rattle.cmd_group.proofs.ClientAnswers.{loops_answer_clients}
use Rattle.cmd_group.proofs.laws.loops_answer_clients.Goals as goal

pub returns : goal.returns
returns c = loops_answer_clients
