use Rattle.hc_rules.proofs.Agreement.{one_term}
use Rattle.hc_rules.proofs.laws.one_term_commits.Goals as goal

pub returns : goal.returns
returns c = λ w k t u m one two. one_term w k t u m one two
