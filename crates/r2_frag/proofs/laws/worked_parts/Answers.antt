use Rattle.r2_frag.proofs.Examples.{worked_parts}
use Rattle.r2_frag.proofs.laws.worked_parts.Goals as goal

pub returns : goal.returns
returns c = worked_parts
