use Rattle.hc_rules.proofs.Examples.{cutting_anywhere_breaks}
use Rattle.hc_rules.proofs.laws.cutting_anywhere_breaks.Goals as goal

pub returns : goal.returns
returns c = cutting_anywhere_breaks
