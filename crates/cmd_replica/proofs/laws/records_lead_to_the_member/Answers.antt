use Rattle.cmd_replica.proofs.Recorded.{records_lead_to_the_member}
use Rattle.cmd_replica.proofs.laws.records_lead_to_the_member.Goals as goal

pub returns : goal.returns
returns c = records_lead_to_the_member
