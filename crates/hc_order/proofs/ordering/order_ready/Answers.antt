-- Each call that orders a request leaves one fewer to order; one that doesn't ends the ordering.
use Rattle.std.proofs.Common.{◌≡◌, ℕ, ◌+◌, ◌-◌, ◌∷◌, [], ◌++◌, List, suc, true, false, is_some, Some, None, sym, ap, ◌∙◌, refl, arith, append_assoc}
use Rattle.r2_base.specs.declared.entry.Entry.{Entry}
use Rattle.hc_log.specs.Log.{metas_of}
use Rattle.hc_order.specs.Ordering.{Waiting, next_ordered, ordered, with_some}
use Rattle.hc_order.proofs.Orders.{ordered-done, ordered-on, ordered-stop, told-after}
use Rattle.hc_order.proofs.ordering.order_ready.Goals as goal

pub orders-preserved : goal.orders-preserved
orders-preserved c =
    let before : Waiting = record { log = c.orders.log; pool = c.orders.pool; queues = c.orders.queues } in
    let did = c.in_ok-order_next.ensures in
    let left : c.args.room - c.orders.done ≡ suc (c.args.room - (c.orders.done + 1)) = omega arith in
    let here : c.in_ok-order_next.field-0 ≡ Some c.in-Some.entry = cc in
    let some : is_some (next_ordered c.args.term before) ≡ true = sym did.more ∙ ap is_some here in
    let step = ordered-on c.args.term (c.args.room - (c.orders.done + 1)) before (next_ordered c.args.term before) refl some in
    let told : metas_of c.order_next.new.log ≡ metas_of c.orders.log ++ c.in-Some.entry ∷ [] = did.told ∙ ap (with_some (metas_of c.orders.log)) here in
    record {
      ready = did.ready;
      same = ap (ordered c.args.term (c.args.room - (c.orders.done + 1))) did.state ∙ sym step ∙ ap (λ (n : ℕ). ordered c.args.term n before) (sym left) ∙ c.orders.invariant.same;
      told =
          told ∙ ap (λ (xs : List Entry). xs ++ c.in-Some.entry ∷ []) c.orders.invariant.told
          ∙ append_assoc (metas_of c.args.log.now) c.orders.metas.items (c.in-Some.entry ∷ [])
          ∙ ap (λ (xs : List Entry). metas_of c.args.log.now ++ xs) (sym c.in_ok-push-in-Some.ensures.items);
    }

pub returns-in-None-clause-state : goal.returns-in-None-clause-state
returns-in-None-clause-state c =
    let before : Waiting = record { log = c.orders.log; pool = c.orders.pool; queues = c.orders.queues } in
    let did = c.in_ok-order_next.ensures in
    let here : c.in_ok-order_next.field-0 ≡ None = cc in
    let none : is_some (next_ordered c.args.term before) ≡ false = sym did.more ∙ ap is_some here in
    did.state ∙ sym (ordered-stop c.args.term (c.args.room - c.orders.done) before (next_ordered c.args.term before) refl none) ∙ c.orders.invariant.same

pub returns-in-None-clause-told : goal.returns-in-None-clause-told
returns-in-None-clause-told c =
    let did = c.in_ok-order_next.ensures in
    let here : c.in_ok-order_next.field-0 ≡ None = cc in
    let same : metas_of c.order_next.new.log ≡ metas_of c.orders.log = did.told ∙ ap (with_some (metas_of c.orders.log)) here in
    c.from_vec.ensures ∙ told-after c.args.log.now c.order_next.new.log c.orders.metas.items (same ∙ c.orders.invariant.told)

pub returns-clause-state : goal.returns-clause-state
returns-clause-state c =
    let now : Waiting = record { log = c.orders.log; pool = c.orders.pool; queues = c.orders.queues } in
    let none : c.args.room - c.orders.done ≡ 0 = omega arith in
    sym (ordered-done c.args.term (c.args.room - c.orders.done) now none) ∙ c.orders.invariant.same

pub returns-clause-told : goal.returns-clause-told
returns-clause-told c = c.from_vec-2.ensures ∙ told-after c.args.log.now c.orders.log c.orders.metas.items c.orders.invariant.told
