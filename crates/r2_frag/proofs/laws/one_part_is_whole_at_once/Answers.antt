use Rattle.r2_frag.proofs.OnePart.{one_part}
use Rattle.r2_frag.proofs.laws.one_part_is_whole_at_once.Goals as goal

pub returns : goal.returns
returns c = one_part
