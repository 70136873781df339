use Rattle.hc_run.proofs.Journals.{groups_have_setups}
use Rattle.hc_run.proofs.laws.groups_have_setups.Goals as goal

pub returns : goal.returns
returns c = groups_have_setups
