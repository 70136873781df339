use Rattle.hc_run.proofs.Counting.{counting_rules}
use Rattle.hc_run.proofs.rows.counting_is_rules.Goals as goal

pub returns : goal.returns
returns c = counting_rules
