use Rattle.hc_store.proofs.Short.{served_short}
use Rattle.hc_store.proofs.laws.answers_are_short.Goals as goal

pub returns : goal.returns
returns c = served_short
