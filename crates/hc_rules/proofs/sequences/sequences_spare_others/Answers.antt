use Rattle.hc_rules.proofs.RuleLists.{rules_spare}
use Rattle.hc_rules.proofs.sequences.sequences_spare_others.Goals as goal

pub returns : goal.returns
returns c = rules_spare
