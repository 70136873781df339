use Rattle.std.proofs.Common.{◌≡◌, ◌++◌, length}
use Rattle.std.specs.Vec.Iter.{into_iter_items, into_iter_len}
use Rattle.hc_world.proofs.requests.append.Given as goal

abbrev pub invariant-datagrams : goal.invariant-datagrams
invariant-datagrams l = record {
  left : l.yielded ++ into_iter_items l.datagram-iterator ≡ into_iter_items l.initial.datagram-iterator;
  size : into_iter_len l.datagram-iterator ≡ length (into_iter_items l.datagram-iterator);
  done : l.all.items ≡ l.initial.all.items ++ l.yielded;
}
