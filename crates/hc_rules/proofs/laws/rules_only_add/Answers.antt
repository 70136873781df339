use Rattle.hc_rules.proofs.Grows.{grows}
use Rattle.hc_rules.proofs.laws.rules_only_add.Goals as goal

pub returns : goal.returns
returns c = λ w r k a. grows w k r a
