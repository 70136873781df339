use Rattle.r2_frag.proofs.PartLaws.{parts_are_of_the_body}
use Rattle.r2_frag.proofs.laws.datagrams_are_parts_of_their_body.Goals as goal

pub returns : goal.returns
returns c = parts_are_of_the_body
