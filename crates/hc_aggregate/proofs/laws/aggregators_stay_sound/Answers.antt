use Rattle.hc_aggregate.proofs.Turns.{aggregators_stay_sound}
use Rattle.hc_aggregate.proofs.laws.aggregators_stay_sound.Goals as goal

pub returns : goal.returns
returns c = aggregators_stay_sound
