use Rattle.std.proofs.Common.{◌≡◌, ◌<◌, length, arith}
use Rattle.hc_replier.proofs.Rows.{reported-queues}
use Rattle.hc_replier.proofs.queues.Queues.report.Goals as goal

pub invariant_of-self : goal.invariant_of-self
invariant_of-self c =
    let is_member = rw (← c.self.view_is) at c.requires in
    let inside : c.from.result < length c.self.inside.queues.items = omega (arith, is_member) in
    rw c.report.ensures (reported-queues c.self.inside.queues.items c.from.result c.args.applied _ c.self.invariant inside c.index_mut.ensures.value)
