use Rattle.hc_run.proofs.RequestRows.{quiet_rows}
use Rattle.hc_run.proofs.rows.quiet_is_rules.Goals as goal

pub returns : goal.returns
returns c = quiet_rows
