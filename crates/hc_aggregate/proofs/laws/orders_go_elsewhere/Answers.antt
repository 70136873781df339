use Rattle.hc_aggregate.proofs.Turns.{orders_go_elsewhere}
use Rattle.hc_aggregate.proofs.laws.orders_go_elsewhere.Goals as goal

pub returns : goal.returns
returns c = orders_go_elsewhere
