use Rattle.hc_rules.proofs.Answers.{applied_is_agreed}
use Rattle.hc_rules.proofs.laws.applied_is_agreed.Goals as goal

pub returns : goal.returns
returns c = applied_is_agreed
