use Rattle.hc_rules.proofs.Examples.{counting_anywhere_breaks}
use Rattle.hc_rules.proofs.laws.counting_anywhere_breaks.Goals as goal

pub returns : goal.returns
returns c = counting_anywhere_breaks
