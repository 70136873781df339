use Rattle.cmd_group.proofs.LoopLives.{lost_records_may_stay}
use Rattle.cmd_group.proofs.laws.lost_records_may_stay.Goals as goal

pub returns : goal.returns
returns c = lost_records_may_stay
