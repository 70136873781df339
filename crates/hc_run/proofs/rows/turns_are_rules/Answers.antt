use Rattle.hc_run.proofs.WholeTurns.{turn_rules}
use Rattle.hc_run.proofs.rows.turns_are_rules.Goals as goal

pub returns : goal.returns
returns c = turn_rules
