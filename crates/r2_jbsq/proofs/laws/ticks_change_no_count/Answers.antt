use Rattle.r2_jbsq.proofs.Turns.{ticks-change-no-count}
use Rattle.r2_jbsq.proofs.laws.ticks_change_no_count.Goals as goal

pub returns : goal.returns
returns c = ticks-change-no-count
