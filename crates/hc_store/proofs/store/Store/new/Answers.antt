use Rattle.hc_store.proofs.Sizes.{IsMeasured-empty}
use Rattle.hc_store.proofs.store.Store.new.Goals as goal

pub invariant_of-result : goal.invariant_of-result
invariant_of-result c = IsMeasured-empty c.new.result c.new.ensures.empty c.new.ensures.ordered
