use Rattle.hc_run.proofs.Journals.{runs_go_on}
use Rattle.hc_run.proofs.laws.runs_go_on.Goals as goal

pub returns : goal.returns
returns c = runs_go_on
