use Rattle.hc_log.proofs.Replays.{replay_push}
use Rattle.hc_log.proofs.laws.replays_go_on.Goals as goal

pub returns : goal.returns
returns c = replay_push
