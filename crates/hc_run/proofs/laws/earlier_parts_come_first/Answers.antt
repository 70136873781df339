use Rattle.hc_run.proofs.Staying.{earlier_parts_come_first}
use Rattle.hc_run.proofs.laws.earlier_parts_come_first.Goals as goal

pub returns : goal.returns
returns c = earlier_parts_come_first
