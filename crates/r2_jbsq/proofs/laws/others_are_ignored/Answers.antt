use Rattle.r2_jbsq.proofs.Packets.{others-ignored}
use Rattle.r2_jbsq.proofs.laws.others_are_ignored.Goals as goal

pub returns : goal.returns
returns c = others-ignored
