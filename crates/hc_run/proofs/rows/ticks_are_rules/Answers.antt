use Rattle.hc_run.proofs.TickRows.{tick_rows}
use Rattle.hc_run.proofs.rows.ticks_are_rules.Goals as goal

pub returns : goal.returns
returns c = tick_rows
