use Rattle.hc_run.proofs.Beginnings.{beginning_is_shown}
use Rattle.hc_run.proofs.laws.the_beginning_is_shown.Goals as goal

pub returns : goal.returns
returns c = beginning_is_shown
