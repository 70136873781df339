use Rattle.hc_run.proofs.OrderRows.{order_rows}
use Rattle.hc_run.proofs.rows.orders_are_rules.Goals as goal

pub returns : goal.returns
returns c = order_rows
