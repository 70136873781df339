use Rattle.cmd_group.proofs.ClientAnswers.{loops_answer_calls}
use Rattle.cmd_group.proofs.laws.loops_answer_calls.Goals as goal

pub returns : goal.returns
returns c = loops_answer_calls
