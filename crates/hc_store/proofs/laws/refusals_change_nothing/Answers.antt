use Rattle.hc_store.proofs.Changes.{refusals_change_nothing}
use Rattle.hc_store.proofs.laws.refusals_change_nothing.Goals as goal

pub returns : goal.returns
returns c = refusals_change_nothing
