use Rattle.std.proofs.Common.{◌≡◌, ◌++◌, length}
use Rattle.std.specs.Vec.Iter.{into_iter_items, into_iter_len}
use Rattle.r2_base.specs.Limits.{id_limit}
use Rattle.hc_world.specs.Steps.{AreSent}
use Rattle.hc_world.proofs.notes.send_all.Given as goal

abbrev pub invariant-sends : goal.invariant-sends
invariant-sends l = record {
  left : l.yielded ++ into_iter_items l.datagram-iterator ≡ into_iter_items l.initial.datagram-iterator;
  size : into_iter_len l.datagram-iterator ≡ length (into_iter_items l.datagram-iterator);
  ids : length l.answered.items ≡ id_limit;
  done : AreSent l.yielded l.initial.datagrams.items l.initial.answered.items l.initial.replies l.datagrams.items l.answered.items l.replies;
}
