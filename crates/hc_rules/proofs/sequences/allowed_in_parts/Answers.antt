use Rattle.hc_rules.proofs.RuleLists.{allowed_in_parts}
use Rattle.hc_rules.proofs.sequences.allowed_in_parts.Goals as goal

pub returns : goal.returns
returns c = allowed_in_parts
