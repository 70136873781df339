use Rattle.hc_rules.proofs.Answers.{given_within_bounds}
use Rattle.hc_rules.proofs.laws.requests_are_given_within_bounds.Goals as goal

pub returns : goal.returns
returns c = given_within_bounds
