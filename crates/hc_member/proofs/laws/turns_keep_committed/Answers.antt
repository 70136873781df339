use Rattle.hc_member.proofs.Turned.{turns_keep_committed}
use Rattle.hc_member.proofs.laws.turns_keep_committed.Goals as goal

pub returns : goal.returns
returns c = turns_keep_committed
