use Rattle.hc_member.proofs.ReportRows.{queues_are_bounded}
use Rattle.hc_member.proofs.laws.queues_are_bounded.Goals as goal

pub returns : goal.returns
returns c = queues_are_bounded
