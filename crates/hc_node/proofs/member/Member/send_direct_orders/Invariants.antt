use Rattle.std.proofs.Common.{◌≡◌, ◌++◌}
use Rattle.hc_member.specs.Orders.{direct_order}
use Rattle.hc_node.proofs.Others.{sent_below}
use Rattle.hc_node.proofs.member.Member.send_direct_orders.Given as goal

abbrev pub invariant-members : goal.invariant-members
invariant-members g l = l.sends.items ≡ l.initial.sends.items ++ sent_below l.setup (direct_order l.setup l.self) l.member
