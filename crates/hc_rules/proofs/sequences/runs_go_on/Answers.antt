use Rattle.hc_rules.proofs.RuleLists.{runs_go_on}
use Rattle.hc_rules.proofs.sequences.runs_go_on.Goals as goal

pub returns : goal.returns
returns c = runs_go_on
