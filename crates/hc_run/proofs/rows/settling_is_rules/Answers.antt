use Rattle.hc_run.proofs.WholeTurns.{settling_rules}
use Rattle.hc_run.proofs.rows.settling_is_rules.Goals as goal

pub returns : goal.returns
returns c = settling_rules
