use Rattle.hc_run.proofs.Sparing.{aggregators_spare}
use Rattle.hc_run.proofs.rows.aggregators_spare_members.Goals as goal

pub returns : goal.returns
returns c = aggregators_spare
