use Rattle.hc_rules.proofs.Answers.{committed_is_agreed}
use Rattle.hc_rules.proofs.laws.committed_is_agreed.Goals as goal

pub returns : goal.returns
returns c = committed_is_agreed
