-- What is left to order leads to the same end, and the entries so far were told.
use Rattle.std.proofs.Common.{◌≡◌, ◌-◌, ◌++◌}
use Rattle.hc_log.specs.Log.{metas_of}
use Rattle.hc_order.specs.Ordering.{IsReady, ordered}
use Rattle.hc_order.proofs.ordering.order_ready.Given as goal

abbrev pub invariant-orders : goal.invariant-orders
invariant-orders l = record {
  ready : IsReady l.term (record { log = l.log; pool = l.pool; queues = l.queues });
  same : ordered l.term (l.room - l.done) (record { log = l.log; pool = l.pool; queues = l.queues })
      ≡ ordered l.term l.room (record { log = l.initial.log; pool = l.initial.pool; queues = l.initial.queues });
  told : metas_of l.log ≡ metas_of l.initial.log ++ l.metas.items;
}
