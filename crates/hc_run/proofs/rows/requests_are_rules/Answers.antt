use Rattle.hc_run.proofs.RequestRows.{request_rows}
use Rattle.hc_run.proofs.rows.requests_are_rules.Goals as goal

pub returns : goal.returns
returns c = request_rows
