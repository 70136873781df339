use Rattle.hc_member.proofs.Situations.{worked_situations}
use Rattle.hc_member.proofs.laws.worked_situations.Goals as goal

pub returns : goal.returns
returns c = worked_situations
