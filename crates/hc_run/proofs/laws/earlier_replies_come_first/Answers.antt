use Rattle.hc_run.proofs.Staying.{earlier_replies_come_first}
use Rattle.hc_run.proofs.laws.earlier_replies_come_first.Goals as goal

pub returns : goal.returns
returns c = earlier_replies_come_first
