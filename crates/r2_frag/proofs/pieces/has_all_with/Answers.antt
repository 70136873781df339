use Rattle.std.proofs.Common.{Some, slice_set, sym, arith}
use Rattle.std.proofs.lemmas.Grind.{common_steps}
use Rattle.r2_frag.proofs.KeptPieces.{has_all-missing}
use Rattle.r2_frag.proofs.pieces.has_all_with.Goals as goal

pub returns-then-is_none : goal.returns-then-is_none
returns-then-is_none c =
    sym (has_all-missing c.args.count c.numbers.n (slice_set c.args.places.now c.args.number (Some c.args.piece.now)) c.numbers-test.true (grind (arith, common_steps)))
