use Rattle.hc_run.proofs.Sparing.{clients_spare}
use Rattle.hc_run.proofs.rows.clients_spare_members.Goals as goal

pub returns : goal.returns
returns c = clients_spare
