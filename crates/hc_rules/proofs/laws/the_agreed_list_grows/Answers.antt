use Rattle.hc_rules.proofs.Agreement.{agreed_grows}
use Rattle.hc_rules.proofs.laws.the_agreed_list_grows.Goals as goal

pub returns : goal.returns
returns c = agreed_grows
