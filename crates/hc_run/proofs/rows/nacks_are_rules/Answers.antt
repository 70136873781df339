use Rattle.hc_run.proofs.ReportRows.{nack_rows}
use Rattle.hc_run.proofs.rows.nacks_are_rules.Goals as goal

pub returns : goal.returns
returns c = nack_rows
