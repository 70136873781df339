use Rattle.r2_frag.proofs.Bounds.{most_unfinished_stay}
use Rattle.r2_frag.proofs.laws.no_more_messages_are_unfinished_than_may_be.Goals as goal

pub returns : goal.returns
returns c = most_unfinished_stay
