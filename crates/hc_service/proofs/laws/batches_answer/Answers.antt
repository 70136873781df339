use Rattle.hc_service.proofs.Answering.{batches_answer}
use Rattle.hc_service.proofs.laws.batches_answer.Goals as goal

pub returns : goal.returns
returns c = batches_answer
