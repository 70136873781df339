use Rattle.std.proofs.Common.{◌≡◌, ℕ, ◌-◌, min, true, false, List, length, refl, sym, ap, subst, ◌∙◌, arith}
use Rattle.std.specs.Prelude.{IfOk, OnOk}
use Rattle.hc_log.specs.declared.stored.Stored.{Stored}
use Rattle.hc_member.specs.Member.{Member}
use Rattle.hc_member.specs.Orders.{HeardOrder, joins, refusal}
use Rattle.hc_member.specs.Outcome.{Outcome}
use Rattle.hc_node.specs.Sends.{AreSent}
use Rattle.hc_node.specs.Told.{heard_order}
use Rattle.hc_node.proofs.OrderRows.{joining, not-joining}
use Rattle.hc_node.proofs.member.Member.take_or_refuse.Goals as goal

pub returns-then-joins : goal.returns-then-joins
returns-then-joins g c =
    let s = c.args.setup.now in
    let m : Member = c.args.self.now in
    let o : HeardOrder = heard_order c.args.order.now in
    let prev_index : o.prev_index ≡ c.in-Order.prev_index = ap (λ x. (heard_order x).prev_index) c.in-Order.is in
    let prev_term : o.prev_term ≡ c.in-Order.prev_term = ap (λ x. (heard_order x).prev_term) c.in-Order.is in
    let here : joins m.log c.in-Order.prev_index c.in-Order.prev_term ≡ true =
    sym (ap (λ (x : Member). joins x.log c.in-Order.prev_index c.in-Order.prev_term) c.self.view_is) ∙ sym c.if-joins.ensures.joins in
    let there : joins m.log o.prev_index o.prev_term ≡ true =
    subst (λ (i : ℕ). joins m.log i o.prev_term ≡ true) (sym prev_index) (subst (λ (t : ℕ). joins m.log c.in-Order.prev_index t ≡ true) (sym prev_term) here) in
    let is = sym (joining s m c.args.from o there) in
    record {
      state = subst (λ (x : Outcome). OnOk c.take_order.result (c.take_order.new.self ≡ x.member)) is c.take_order.ensures.state;
      keep = subst (λ (x : Outcome). IfOk c.take_order.result (λ keep. keep ≡ x.keep)) is c.take_order.ensures.keep;
      sends = subst (λ (x : Outcome). OnOk c.take_order.result (AreSent s x.sends c.args.sends.now.items c.take_order.new.sends.items)) is c.take_order.ensures.sends;
    }

pub returns : goal.returns
returns g c =
    let s = c.args.setup.now in
    let m : Member = c.args.self.now in
    let o : HeardOrder = heard_order c.args.order.now in
    let leader : o.leader ≡ c.in-Order.leader = ap (λ x. (heard_order x).leader) c.in-Order.is in
    let prev_index : o.prev_index ≡ c.in-Order.prev_index = ap (λ x. (heard_order x).prev_index) c.in-Order.is in
    let prev_term : o.prev_term ≡ c.in-Order.prev_term = ap (λ x. (heard_order x).prev_term) c.in-Order.is in
    let log : c.self.inside.log ≡ m.log = ap (λ (x : Member). x.log) c.self.view_is in
    let size : length c.self.inside.log ≡ length m.log = ap length log in
    let here : joins m.log c.in-Order.prev_index c.in-Order.prev_term ≡ false =
    sym (ap (λ (l : List Stored). joins l c.in-Order.prev_index c.in-Order.prev_term) log) ∙ sym c.if-joins.ensures.joins in
    let there : joins m.log o.prev_index o.prev_term ≡ false =
    subst (λ (i : ℕ). joins m.log i o.prev_term ≡ false) (sym prev_index) (subst (λ (t : ℕ). joins m.log c.in-Order.prev_index t ≡ false) (sym prev_term) here) in
    let hint : c.min-hint.result ≡ min (length m.log) (o.prev_index - 1) = omega (arith, size, prev_index) in
    let is = sym (not-joining s m c.args.from o there) in
    let sent : AreSent s (refusal s m o.leader (min (length m.log) (o.prev_index - 1))) c.args.sends.now.items c.send_refusal.new.sends.items =
    subst (λ (n : ℕ). AreSent s (refusal s m n (min (length m.log) (o.prev_index - 1))) c.args.sends.now.items c.send_refusal.new.sends.items) (sym leader)
    (subst (λ (h : ℕ). AreSent s (refusal s m c.in-Order.leader h) c.args.sends.now.items c.send_refusal.new.sends.items) hint c.in_ok-send_refusal.ensures) in
    record {
      state = subst (λ (x : Outcome). m ≡ x.member) is refl;
      keep = subst (λ (x : Outcome). c.last-last.result ≡ x.keep) is (c.last-last.ensures.index ∙ size);
      sends = subst (λ (x : Outcome). AreSent s x.sends c.args.sends.now.items c.send_refusal.new.sends.items) is sent;
    }
