use Rattle.r2_jbsq.proofs.Runs.{wait-full}
use Rattle.r2_jbsq.proofs.laws.requests_wait_only_while_all_are_full.Goals as goal

pub returns : goal.returns
returns c = wait-full
