use Rattle.std.proofs.Common.{◌≡◌, ◌+◌, ◌-◌, List, take, drop, ap, ◌∙◌, arith}
use Rattle.r2_base.specs.Limits.{most_entries}
use Rattle.r2_base.specs.declared.entry.Entry.{Entry}
use Rattle.hc_log.specs.Log.{metas_of}
use Rattle.hc_member.specs.Member.{Member}
use Rattle.hc_member.specs.Orders.{order_after}
use Rattle.hc_node.proofs.FreshOrders.{fresh-is}
use Rattle.hc_node.proofs.ReportRows.{last-fits}
use Rattle.hc_node.proofs.member.Member.fresh_order.Goals as goal

pub overflow_add-keep : goal.overflow_add-keep
overflow_add-keep g c =
    let last = last-fits c.args.setup.now c.args.self.now c.requires.sound in
    omega (arith, last)

pub returns : goal.returns
returns g c =
    let s = c.args.setup.now in
    let m : Member = c.args.self.now in
    let keep = c.args.keep in
    let entries : c.in_ok-entries.entries ≡ take most_entries (drop (keep + 1 - 1) (metas_of m.log)) =
    c.in_ok-entries.ensures ∙ ap (λ (x : Member). take most_entries (drop (keep + 1 - 1) (metas_of x.log))) c.self.view_is in
    fresh-is s m keep c.args.via c.order_after.result c.requires.few (c.order_after.ensures ∙ ap (λ (es : List Entry). order_after s m keep c.args.via es) entries)
