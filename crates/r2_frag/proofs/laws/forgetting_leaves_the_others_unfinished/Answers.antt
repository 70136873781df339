use Rattle.r2_frag.proofs.OnePart.{forgetting_leaves_unfinished}
use Rattle.r2_frag.proofs.laws.forgetting_leaves_the_others_unfinished.Goals as goal

pub returns : goal.returns
returns c = forgetting_leaves_unfinished
