use Rattle.hc_rules.proofs.RuleLists.{same_group}
use Rattle.hc_rules.proofs.sequences.groups_stay_the_same.Goals as goal

pub returns : goal.returns
returns c = same_group
