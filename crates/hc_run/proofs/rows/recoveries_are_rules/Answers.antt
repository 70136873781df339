use Rattle.hc_run.proofs.BodyRows.{recovery_rows}
use Rattle.hc_run.proofs.rows.recoveries_are_rules.Goals as goal

pub returns : goal.returns
returns c = recovery_rows
