use Rattle.hc_order.proofs.Orderings.{orderings_are_right}
use Rattle.hc_order.proofs.laws.orderings_are_right.Goals as goal

pub returns : goal.returns
returns c = orderings_are_right
