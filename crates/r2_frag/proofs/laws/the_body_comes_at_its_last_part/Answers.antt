use Rattle.r2_frag.proofs.Completing.{whole_at_the_last_part}
use Rattle.r2_frag.proofs.laws.the_body_comes_at_its_last_part.Goals as goal

pub returns : goal.returns
returns c = whole_at_the_last_part
