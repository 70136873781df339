use Rattle.hc_rules.proofs.Answers.{runs_answer}
use Rattle.hc_rules.proofs.laws.runs_answer.Goals as goal

pub returns : goal.returns
returns c = runs_answer
