use Rattle.hc_run.proofs.Finishing.{finish_rules}
use Rattle.hc_run.proofs.rows.finish_is_rules.Goals as goal

pub returns : goal.returns
returns c = finish_rules
