use Rattle.hc_run.proofs.WholeRuns.{applied_is_one_list}
use Rattle.hc_run.proofs.laws.applied_is_one_list.Goals as goal

pub returns : goal.returns
returns c = applied_is_one_list
