use Rattle.r2_jbsq.proofs.Runs.{add-up}
use Rattle.r2_jbsq.proofs.laws.counts_add_up.Goals as goal

pub returns : goal.returns
returns c = add-up
