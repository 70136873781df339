use Rattle.hc_run.proofs.WholeRuns.{runs_are_rules}
use Rattle.hc_run.proofs.laws.runs_are_rules.Goals as goal

pub returns : goal.returns
returns c = runs_are_rules
