use Rattle.hc_world.proofs.Answered.{replies_are_counted}
use Rattle.hc_world.proofs.laws.replies_are_counted.Goals as goal

pub returns : goal.returns
returns c = replies_are_counted
