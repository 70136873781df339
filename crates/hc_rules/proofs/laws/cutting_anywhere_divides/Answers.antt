use Rattle.hc_rules.proofs.Examples.{cutting_anywhere_divides}
use Rattle.hc_rules.proofs.laws.cutting_anywhere_divides.Goals as goal

pub returns : goal.returns
returns c = cutting_anywhere_divides
