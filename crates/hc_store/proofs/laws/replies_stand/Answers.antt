use Rattle.hc_store.proofs.Stand.{replies_stand}
use Rattle.hc_store.proofs.laws.replies_stand.Goals as goal

pub returns : goal.returns
returns c = replies_stand
