use Rattle.hc_run.proofs.WholeRuns.{the_list_grows}
use Rattle.hc_run.proofs.laws.the_list_grows.Goals as goal

pub returns : goal.returns
returns c = the_list_grows
