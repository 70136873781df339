use Rattle.hc_rules.proofs.Parts.{spares}
use Rattle.hc_rules.proofs.laws.rules_spare_others.Goals as goal

pub returns : goal.returns
returns c = spares
