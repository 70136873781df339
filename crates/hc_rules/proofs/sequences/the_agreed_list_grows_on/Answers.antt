use Rattle.hc_rules.proofs.RuleLists.{agreed_grows_on}
use Rattle.hc_rules.proofs.sequences.the_agreed_list_grows_on.Goals as goal

pub returns : goal.returns
returns c = agreed_grows_on
