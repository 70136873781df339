use Rattle.hc_log.proofs.Replays.{IsValid-after}
use Rattle.hc_log.proofs.laws.records_keep_states_valid.Goals as goal

pub returns : goal.returns
returns c = IsValid-after
