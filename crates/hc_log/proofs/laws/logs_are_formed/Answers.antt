use Rattle.hc_log.proofs.Formed.{IsFormed-from_steps, steps-from_IsFormed}
use Rattle.hc_log.proofs.laws.logs_are_formed.Goals as goal

pub returns : goal.returns
returns c = λ log. (IsFormed-from_steps log, steps-from_IsFormed log)
