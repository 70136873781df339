use Rattle.hc_run.proofs.Aggregating.{aggregating_rules}
use Rattle.hc_run.proofs.rows.aggregating_is_rules.Goals as goal

pub returns : goal.returns
returns c = aggregating_rules
