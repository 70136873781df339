use Rattle.hc_member.proofs.Finished.{replies_are_one_thread}
use Rattle.hc_member.proofs.laws.replies_are_one_thread.Goals as goal

pub returns : goal.returns
returns c = replies_are_one_thread
