use Rattle.hc_run.proofs.ReportRows.{ack_rows}
use Rattle.hc_run.proofs.rows.acks_are_rules.Goals as goal

pub returns : goal.returns
returns c = ack_rows
