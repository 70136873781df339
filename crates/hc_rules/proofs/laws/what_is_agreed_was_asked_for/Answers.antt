use Rattle.hc_rules.proofs.Answers.{agreed_was_asked}
use Rattle.hc_rules.proofs.laws.what_is_agreed_was_asked_for.Goals as goal

pub returns : goal.returns
returns c = agreed_was_asked
