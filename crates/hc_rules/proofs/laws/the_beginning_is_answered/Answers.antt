use Rattle.hc_rules.proofs.Answers.{begins_answered}
use Rattle.hc_rules.proofs.laws.the_beginning_is_answered.Goals as goal

pub returns : goal.returns
returns c = begins_answered
