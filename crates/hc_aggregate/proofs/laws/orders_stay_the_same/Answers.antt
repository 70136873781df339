use Rattle.hc_aggregate.proofs.Turns.{orders_stay_the_same}
use Rattle.hc_aggregate.proofs.laws.orders_stay_the_same.Goals as goal

pub returns : goal.returns
returns c = orders_stay_the_same
