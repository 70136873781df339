use Rattle.hc_rules.proofs.Parts.{leaves}
use Rattle.hc_rules.proofs.laws.rules_leave_the_rest.Goals as goal

pub returns : goal.returns
returns c = leaves
