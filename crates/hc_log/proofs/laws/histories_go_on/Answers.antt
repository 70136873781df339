use Rattle.hc_log.proofs.Replays.{IsHistory-push}
use Rattle.hc_log.proofs.laws.histories_go_on.Goals as goal

pub returns : goal.returns
returns c = IsHistory-push
