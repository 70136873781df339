-- What is left may still wait in the pool, and then all of it does.
use Rattle.std.proofs.Common.{◌≡◌, ◌++◌}
use Rattle.std.specs.Vec.Iter.{into_iter_items}
use Rattle.hc_order.specs.Taking.{MayReturn, released}
use Rattle.hc_order.proofs.taking.put_back.Given as goal

abbrev pub invariant-entries : goal.invariant-entries
invariant-entries l = record {
  can : (goal.iterator-entries).can_next l.s-iterator;
  finite : (goal.iterator-entries).is_finite l.s-iterator;
  may : MayReturn l.pool (into_iter_items l.s-iterator);
  all : l.pool ++ released (into_iter_items l.s-iterator) ≡ l.initial.pool ++ released l.fn.cut.items;
}
