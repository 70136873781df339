use Rattle.hc_rules.proofs.LaterLeaders.{later_base}
use Rattle.hc_rules.proofs.laws.later_leaders_have_it.Goals as goal

pub returns : goal.returns
returns c = λ w k t m u d committed later won. later_base w k t m committed u d later won
