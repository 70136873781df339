use Rattle.hc_rules.proofs.Steps.{steps_keep}
use Rattle.hc_rules.proofs.laws.steps_keep.Goals as goal

pub returns : goal.returns
returns c = steps_keep
