use Rattle.hc_rules.proofs.Answers.{runs_keep}
use Rattle.hc_rules.proofs.laws.runs_keep.Goals as goal

pub returns : goal.returns
returns c = runs_keep
