use Rattle.r2_frag.proofs.Examples.{worked_keys}
use Rattle.r2_frag.proofs.laws.worked_keys.Goals as goal

pub returns : goal.returns
returns c = worked_keys
