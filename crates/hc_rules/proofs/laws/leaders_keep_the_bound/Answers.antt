use Rattle.hc_rules.proofs.Answers.{leaders_keep_the_bound}
use Rattle.hc_rules.proofs.laws.leaders_keep_the_bound.Goals as goal

pub returns : goal.returns
returns c = leaders_keep_the_bound
