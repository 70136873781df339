use Rattle.cmd_replay.proofs.Recorded.{records_lead_to_the_member}
use Rattle.cmd_replay.proofs.laws.records_lead_to_the_member.Goals as goal

pub returns : goal.returns
returns c = records_lead_to_the_member
