use Rattle.hc_replier.proofs.Rows.{new-queues}
use Rattle.hc_replier.proofs.queues.Queues.new.Goals as goal

pub invariant_of-result : goal.invariant_of-result
invariant_of-result c = rw c.in_ok-new_queues.ensures (new-queues c.args.bounds.now c.requires)
