use Rattle.hc_run.proofs.Examples.{worked_runs}
use Rattle.hc_run.proofs.laws.worked_runs.Goals as goal

pub returns : goal.returns
returns c = worked_runs
