use Rattle.std.proofs.Common.{◌≡◌, ◌++◌, length}
use Rattle.std.specs.Vec.Iter.{into_iter_items, into_iter_len}
use Rattle.hc_node.proofs.Finishing.{KeptAndSent}
use Rattle.hc_node.proofs.finish.keep_and_send_all.Given as goal

abbrev pub invariant-answers : goal.invariant-answers
invariant-answers l = record {
  left : l.yielded ++ into_iter_items l.answer-iterator ≡ into_iter_items l.initial.answer-iterator;
  size : into_iter_len l.answer-iterator ≡ length (into_iter_items l.answer-iterator);
  done : KeptAndSent l.setup l.initial.kept l.initial.sends.items l.yielded l.kept l.sends.items;
}
