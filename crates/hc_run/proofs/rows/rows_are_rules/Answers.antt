use Rattle.hc_run.proofs.AllRows.{all_rows}
use Rattle.hc_run.proofs.rows.rows_are_rules.Goals as goal

pub returns : goal.returns
returns c = all_rows
