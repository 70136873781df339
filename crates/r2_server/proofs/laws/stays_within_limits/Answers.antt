use Rattle.r2_server.proofs.Sound.{limits}
use Rattle.r2_server.proofs.laws.stays_within_limits.Goals as goal

pub returns : goal.returns
returns c = limits
