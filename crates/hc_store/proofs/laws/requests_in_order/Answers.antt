use Rattle.hc_store.proofs.InOrder.{requests_in_order}
use Rattle.hc_store.proofs.laws.requests_in_order.Goals as goal

pub returns : goal.returns
returns c = requests_in_order
