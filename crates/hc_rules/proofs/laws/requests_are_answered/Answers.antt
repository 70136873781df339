use Rattle.hc_rules.proofs.Examples.{requests_are_answered}
use Rattle.hc_rules.proofs.laws.requests_are_answered.Goals as goal

pub returns : goal.returns
returns c = requests_are_answered
