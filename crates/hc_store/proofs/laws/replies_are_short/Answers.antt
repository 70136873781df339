use Rattle.hc_store.proofs.Short.{replies_are_short}
use Rattle.hc_store.proofs.laws.replies_are_short.Goals as goal

pub returns : goal.returns
returns c = replies_are_short
