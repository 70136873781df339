use Rattle.hc_run.proofs.Orderings.{ordering_rules}
use Rattle.hc_run.proofs.rows.ordering_is_rules.Goals as goal

pub returns : goal.returns
returns c = ordering_rules
