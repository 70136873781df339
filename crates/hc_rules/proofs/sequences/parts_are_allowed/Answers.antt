use Rattle.hc_rules.proofs.RuleLists.{parts_are_allowed}
use Rattle.hc_rules.proofs.sequences.parts_are_allowed.Goals as goal

pub returns : goal.returns
returns c = parts_are_allowed
