use Rattle.hc_rules.proofs.Examples.{requests_are_answered_in_order}
use Rattle.hc_rules.proofs.laws.requests_are_answered_in_order.Goals as goal

pub returns : goal.returns
returns c = requests_are_answered_in_order
