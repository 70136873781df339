use Rattle.std.proofs.Common.{◌*◌, rules}
use Rattle.r2_frag.specs.Parts.{piece}
use Rattle.r2_frag.proofs.KeptPieces.{cut_range}
use Rattle.r2_frag.proofs.datagrams.piece.Goals as goal

pub returns : goal.returns
unfolding piece
returns c = cut_range c.args.body.now (c.args.n * 1024) 1024 _ _ (search rules) (search rules)
