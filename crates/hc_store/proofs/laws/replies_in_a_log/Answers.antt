use Rattle.hc_store.proofs.InOrder.{replies_in_a_log}
use Rattle.hc_store.proofs.laws.replies_in_a_log.Goals as goal

pub returns : goal.returns
returns c = replies_in_a_log
