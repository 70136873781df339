use Rattle.std.proofs.Common.{◌≡◌, ◌+◌, ◌≤◌, ◌++◌, length, reverse}
use Rattle.std.specs.Vec.{vec_len, vec_capacity}
use Rattle.hc_log.proofs.log.Log.cut.Given as goal

abbrev pub invariant-entries : goal.invariant-entries
invariant-entries l = record {
  whole : l.self ++ reverse l.others.items ≡ l.fn.self;
  left : length l.self + l.counter ≡ length l.fn.self;
  taken : vec_len l.others ≡ l.counter;
  room : l.count ≤ vec_capacity l.others;
}
