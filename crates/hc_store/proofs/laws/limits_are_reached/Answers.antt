use Rattle.hc_store.proofs.OnePair.{limits_are_reached}
use Rattle.hc_store.proofs.laws.limits_are_reached.Goals as goal

pub returns : goal.returns
returns c = limits_are_reached
