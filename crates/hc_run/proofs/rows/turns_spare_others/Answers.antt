use Rattle.hc_run.proofs.Sparing.{turns_spare}
use Rattle.hc_run.proofs.rows.turns_spare_others.Goals as goal

pub returns : goal.returns
returns c = turns_spare
