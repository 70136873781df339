use Rattle.hc_member.proofs.Turned.{turns_go_well}
use Rattle.hc_member.proofs.laws.turns_go_well.Goals as goal

pub returns : goal.returns
returns c = turns_go_well
