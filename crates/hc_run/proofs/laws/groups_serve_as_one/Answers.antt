use Rattle.hc_run.proofs.WholeRuns.{groups_serve_as_one}
use Rattle.hc_run.proofs.laws.groups_serve_as_one.Goals as goal

pub returns : goal.returns
returns c = groups_serve_as_one
