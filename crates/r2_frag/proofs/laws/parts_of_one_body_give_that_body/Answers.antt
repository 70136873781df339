use Rattle.r2_frag.proofs.OneBody.{one_body}
use Rattle.r2_frag.proofs.laws.parts_of_one_body_give_that_body.Goals as goal

pub returns : goal.returns
returns c = one_body
