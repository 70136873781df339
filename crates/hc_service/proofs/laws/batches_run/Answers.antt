use Rattle.hc_service.proofs.Running.{batches_run}
use Rattle.hc_service.proofs.laws.batches_run.Goals as goal

pub returns : goal.returns
returns c = batches_run
