use Rattle.r2_client.proofs.Ids.{in_order}
use Rattle.r2_client.proofs.laws.ids_are_in_order.Goals as goal

pub returns : goal.returns
returns c = in_order
