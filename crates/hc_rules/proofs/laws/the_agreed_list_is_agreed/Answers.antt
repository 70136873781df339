use Rattle.hc_rules.proofs.Agreement.{agreed_is}
use Rattle.hc_rules.proofs.laws.the_agreed_list_is_agreed.Goals as goal

pub returns : goal.returns
returns c = λ w k. agreed_is w k
