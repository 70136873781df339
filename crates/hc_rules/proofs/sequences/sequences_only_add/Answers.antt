use Rattle.hc_rules.proofs.RuleLists.{rules_only_add}
use Rattle.hc_rules.proofs.sequences.sequences_only_add.Goals as goal

pub returns : goal.returns
returns c = rules_only_add
