use Rattle.hc_run.proofs.ReportRows.{aggregate_rows}
use Rattle.hc_run.proofs.rows.aggregate_commits_are_rules.Goals as goal

pub returns : goal.returns
returns c = aggregate_rows
