use Rattle.r2_frag.proofs.PartLaws.{short_body_is_one_part}
use Rattle.r2_frag.proofs.laws.a_short_body_is_one_part.Goals as goal

pub returns : goal.returns
returns c = short_body_is_one_part
