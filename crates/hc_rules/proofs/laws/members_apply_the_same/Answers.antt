use Rattle.hc_rules.proofs.Answers.{members_apply_the_same}
use Rattle.hc_rules.proofs.laws.members_apply_the_same.Goals as goal

pub returns : goal.returns
returns c = members_apply_the_same
