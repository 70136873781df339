use Rattle.hc_node.proofs.Settling.{goes-on}
use Rattle.hc_node.proofs.member.Member.go_on.Goals as goal

pub order-requires-clause-ready : goal.order-requires-clause-ready
order-requires-clause-ready g c κs within =
    (goes-on c.args.setup.now c.args.self.now c.args.keep c.requires.setup c.requires.sound c.requires.role c.requires.keep c.requires.few).ready

pub send_fresh_orders-requires-clause-sound : goal.send_fresh_orders-requires-clause-sound
send_fresh_orders-requires-clause-sound g c κs within =
    rw c.in_ok-order.ensures
    (goes-on c.args.setup.now c.args.self.now c.args.keep c.requires.setup c.requires.sound c.requires.role c.requires.keep c.requires.few).sound

pub send_fresh_orders-requires-clause-role : goal.send_fresh_orders-requires-clause-role
send_fresh_orders-requires-clause-role g c κs within =
    rw c.in_ok-order.ensures
    (goes-on c.args.setup.now c.args.self.now c.args.keep c.requires.setup c.requires.sound c.requires.role c.requires.keep c.requires.few).role

pub send_fresh_orders-requires-clause-keep : goal.send_fresh_orders-requires-clause-keep
send_fresh_orders-requires-clause-keep g c κs within =
    rw c.in_ok-order.ensures
    (goes-on c.args.setup.now c.args.self.now c.args.keep c.requires.setup c.requires.sound c.requires.role c.requires.keep c.requires.few).keep

pub send_fresh_orders-requires-clause-few : goal.send_fresh_orders-requires-clause-few
send_fresh_orders-requires-clause-few g c κs within =
    rw c.in_ok-order.ensures
    (goes-on c.args.setup.now c.args.self.now c.args.keep c.requires.setup c.requires.sound c.requires.role c.requires.keep c.requires.few).few

pub count-requires-clause-each : goal.count-requires-clause-each
count-requires-clause-each g c κs within =
    rw c.in_ok-order.ensures
    (goes-on c.args.setup.now c.args.self.now c.args.keep c.requires.setup c.requires.sound c.requires.role c.requires.keep c.requires.few).each
