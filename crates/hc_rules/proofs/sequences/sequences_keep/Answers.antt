use Rattle.hc_rules.proofs.RuleLists.{rules_keep}
use Rattle.hc_rules.proofs.sequences.sequences_keep.Goals as goal

pub returns : goal.returns
returns c = rules_keep
