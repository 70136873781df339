use Rattle.std.proofs.Common.{◌≡◌, ◌-◌, ◌++◌, false, List, length, take, drop, sym, ap, subst, ◌∙◌, arith}
use Rattle.std.specs.Prelude.{OnOk}
use Rattle.r2_base.specs.Limits.{most_entries}
use Rattle.r2_base.specs.declared.entry.Entry.{Entry}
use Rattle.hc_log.specs.Log.{metas_of}
use Rattle.hc_message.specs.Message.{IsValid}
use Rattle.hc_member.specs.Member.{Member}
use Rattle.hc_member.specs.Orders.{next_to, order_after}
use Rattle.hc_member.specs.Sending.{Sending, datagrams_of}
use Rattle.hc_member.proofs.Leads.{next-most}
use Rattle.hc_node.proofs.DirectOrders.{direct-is, direct-valid}
use Rattle.hc_node.proofs.member.Member.send_direct_order.Goals as goal

pub tell-requires-clause-message : goal.tell-requires-clause-message
tell-requires-clause-message g c =
    let s = c.args.setup.now in
    let m : Member = c.args.self.now in
    let from = c.next_to-from.result in
    let same : from ≡ next_to m.lead c.args.member = c.next_to-from.ensures ∙ ap (λ (x : Member). next_to x.lead c.args.member) c.self.view_is in
    let high = next-most s c.requires.setup m.term (length m.log) m.lead c.requires.leading c.args.member in
    let entries : c.in_ok-entries.entries ≡ take most_entries (drop (from - 1) (metas_of m.log)) =
    c.in_ok-entries.ensures ∙ ap (λ (x : Member). take most_entries (drop (from - 1) (metas_of x.log))) c.self.view_is in
    rw c.order_after-message.ensures (subst (λ (es : List Entry). IsValid (order_after s m (from - 1) false es)) (sym entries)
    (direct-valid s m from false c.requires.setup c.requires.durable c.requires.leading c.requires.commit (omega (arith, same, high))))

pub returns : goal.returns
returns g c =
    let s = c.args.setup.now in
    let m : Member = c.args.self.now in
    let from = c.next_to-from.result in
    let same : from ≡ next_to m.lead c.args.member = c.next_to-from.ensures ∙ ap (λ (x : Member). next_to x.lead c.args.member) c.self.view_is in
    let entries : c.in_ok-entries.entries ≡ take most_entries (drop (from - 1) (metas_of m.log)) =
    c.in_ok-entries.ensures ∙ ap (λ (x : Member). take most_entries (drop (from - 1) (metas_of x.log))) c.self.view_is in
    let whole = c.order_after-message.ensures ∙ ap (λ (es : List Entry). order_after s m (from - 1) false es) entries in
    subst (λ (x : Sending). OnOk c.tell.result (c.tell.new.sends.items ≡ c.args.sends.now.items ++ datagrams_of s x))
    (direct-is s m c.args.member from c.address_of.result c.order_after-message.result c.address_of.ensures same whole) c.tell.ensures
