use Rattle.hc_rules.proofs.Steps.{begins}
use Rattle.hc_rules.proofs.laws.the_beginning_is_kept.Goals as goal

pub returns : goal.returns
returns c = begins
