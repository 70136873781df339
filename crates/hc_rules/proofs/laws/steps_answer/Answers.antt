use Rattle.hc_rules.proofs.RuleLists.{steps_answer}
use Rattle.hc_rules.proofs.laws.steps_answer.Goals as goal

pub returns : goal.returns
returns c = steps_answer
