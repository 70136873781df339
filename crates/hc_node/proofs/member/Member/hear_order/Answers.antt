use Rattle.std.proofs.Common.{ap, subst}
use Rattle.hc_message.specs.Entry.{IsTerm}
use Rattle.hc_node.specs.Told.{order_term}
use Rattle.hc_node.proofs.OrderRows.{followed-sound, followed-term, order-is_term}
use Rattle.hc_node.proofs.member.Member.hear_order.Goals as goal

pub take_or_refuse-requires-clause-sound : goal.take_or_refuse-requires-clause-sound
take_or_refuse-requires-clause-sound g c κs within =
    let t : IsTerm c.in-Order.term = subst IsTerm (ap order_term c.in-Order.is) (order-is_term c.args.order.now c.requires.order c.requires.valid) in
    rw c.follow.ensures (followed-sound c.args.setup.now c.args.self.now c.in-Order.term c.requires.setup t c.requires.sound)

pub take_or_refuse-requires-clause-term : goal.take_or_refuse-requires-clause-term
take_or_refuse-requires-clause-term g c κs within =
    let t : IsTerm c.in-Order.term = subst IsTerm (ap order_term c.in-Order.is) (order-is_term c.args.order.now c.requires.order c.requires.valid) in
    rw c.follow.ensures (followed-term c.args.setup.now c.args.self.now c.in-Order.term c.requires.setup t c.requires.sound)
