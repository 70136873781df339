use Rattle.r2_frag.proofs.OnePart.{unfinished_stay}
use Rattle.r2_frag.proofs.laws.kept_messages_are_unfinished.Goals as goal

pub returns : goal.returns
returns c = unfinished_stay
