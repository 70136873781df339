use Rattle.hc_rules.proofs.Examples.{entries_are_inherited}
use Rattle.hc_rules.proofs.laws.entries_are_inherited.Goals as goal

pub returns : goal.returns
returns c = entries_are_inherited
