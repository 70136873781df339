use Rattle.hc_store.proofs.Short.{values_stay_short}
use Rattle.hc_store.proofs.laws.values_stay_short.Goals as goal

pub returns : goal.returns
returns c = values_stay_short
