-- What was appended so far, and what is appended of the rest.
use Rattle.std.proofs.Common.{◌≡◌, drop}
use Rattle.hc_order.specs.Taking.{AreNext, appending}
use Rattle.hc_order.proofs.Growing.{after_more}
use Rattle.hc_order.proofs.appending.append_each.Given as goal

abbrev pub invariant-entries : goal.invariant-entries
invariant-entries l = record {
  same : appending l.initial.log l.initial.pool l.entries ≡ after_more l.i (appending l.log l.pool (drop l.i l.entries));
  next : AreNext l.log (drop l.i l.entries);
}
