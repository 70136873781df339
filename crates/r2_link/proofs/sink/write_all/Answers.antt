use Rattle.std.proofs.Common.{arith}
use Rattle.std.proofs.lemmas.Grind.{common_steps}
use Rattle.r2_link.proofs.Streams.{Partly-more}
use Rattle.r2_link.proofs.sink.write_all.Goals as goal

pub pieces-preserved : goal.pieces-preserved
pieces-preserved g c = (
  Partly-more _ _ _ _ _ _ _ c.pieces.invariant.0 c.in_ok-taken.ensures.bytes (grind (arith, common_steps)),
  omega (arith, c.pieces.invariant.1, c.in_ok-taken.ensures.steady),
)
