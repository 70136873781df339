use Rattle.hc_log.proofs.Replays.{IsValid-replay}
use Rattle.hc_log.proofs.laws.histories_lead_to_valid_states.Goals as goal

pub returns : goal.returns
returns c = IsValid-replay
