use Rattle.hc_run.proofs.AllSteps.{steps_are_rules}
use Rattle.hc_run.proofs.laws.steps_are_rules.Goals as goal

pub returns : goal.returns
returns c = steps_are_rules
