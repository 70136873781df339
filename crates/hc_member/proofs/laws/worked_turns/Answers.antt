use Rattle.hc_member.proofs.Examples.{worked_turns}
use Rattle.hc_member.proofs.laws.worked_turns.Goals as goal

pub returns : goal.returns
returns c = worked_turns
