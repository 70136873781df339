use Rattle.hc_rules.proofs.Examples.{every_rule_is_made}
use Rattle.hc_rules.proofs.laws.every_rule_is_made.Goals as goal

pub returns : goal.returns
returns c = every_rule_is_made
