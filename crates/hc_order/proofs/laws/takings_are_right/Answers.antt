use Rattle.hc_order.proofs.Takings.{takings_are_right}
use Rattle.hc_order.proofs.laws.takings_are_right.Goals as goal

pub returns : goal.returns
returns c = takings_are_right
