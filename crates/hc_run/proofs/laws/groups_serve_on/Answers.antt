use Rattle.hc_run.proofs.WholeRuns.{groups_serve_on}
use Rattle.hc_run.proofs.laws.groups_serve_on.Goals as goal

pub returns : goal.returns
returns c = groups_serve_on
