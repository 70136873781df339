use Rattle.hc_store.proofs.Changes.{reads_change_nothing}
use Rattle.hc_store.proofs.laws.reads_change_nothing.Goals as goal

pub returns : goal.returns
returns c = reads_change_nothing
