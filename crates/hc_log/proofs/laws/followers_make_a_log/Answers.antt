use Rattle.hc_log.proofs.Formed.{FollowEach-from_log}
use Rattle.hc_log.proofs.Logs.{IsLog-append}
use Rattle.hc_log.proofs.laws.followers_make_a_log.Goals as goal

pub returns : goal.returns
returns c = λ log entries is_log. (IsLog-append log entries is_log, FollowEach-from_log log entries)
