use Rattle.std.proofs.Common.{◌≡◌, length}
use Rattle.r2_frag.proofs.tests.body.Given as goal

abbrev pub invariant-loop-i : goal.invariant-loop-i
invariant-loop-i l = length l.bytes.items ≡ l.i
