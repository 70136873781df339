use Rattle.r2_frag.proofs.BodyPieces.{each_body_is_in_pieces}
use Rattle.r2_frag.proofs.laws.the_pieces_of_a_body_are_the_body.Goals as goal

pub returns : goal.returns
returns c = each_body_is_in_pieces
