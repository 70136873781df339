use Rattle.hc_world.proofs.Answered.{ids_are_answered}
use Rattle.hc_world.proofs.laws.ids_are_answered.Goals as goal

pub returns : goal.returns
returns c = ids_are_answered
