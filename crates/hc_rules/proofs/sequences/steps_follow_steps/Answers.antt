use Rattle.hc_rules.proofs.RuleLists.{steps_follow}
use Rattle.hc_rules.proofs.sequences.steps_follow_steps.Goals as goal

pub returns : goal.returns
returns c = steps_follow
