-- The copies so far are those of the first heads.
use Rattle.std.proofs.Common.{◌≡◌, ◌++◌, map, take}
use Rattle.r2_link.specs.Sent.{datagram_at}
use Rattle.r2_link.proofs.sent.copy_run.Given as goal

abbrev pub invariant-heads : goal.invariant-heads
invariant-heads l = l.out.items ≡ l.initial.out.items ++ map (datagram_at l.bytes) (take l.head-index l.heads)
