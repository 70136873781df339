use Rattle.hc_run.proofs.Sparing.{members_spare}
use Rattle.hc_run.proofs.rows.members_spare_others.Goals as goal

pub returns : goal.returns
returns c = members_spare
