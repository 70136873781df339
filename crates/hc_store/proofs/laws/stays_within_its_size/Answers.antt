use Rattle.hc_store.proofs.Changes.{stays_within_its_size}
use Rattle.hc_store.proofs.laws.stays_within_its_size.Goals as goal

pub returns : goal.returns
returns c = stays_within_its_size
