use Rattle.r2_jbsq.proofs.Runs.{answered-new}
use Rattle.r2_jbsq.proofs.laws.answered_requests_are_new.Goals as goal

pub returns : goal.returns
returns c = answered-new
