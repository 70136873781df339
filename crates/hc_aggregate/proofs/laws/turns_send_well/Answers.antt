use Rattle.hc_aggregate.proofs.Turns.{turns_send_well}
use Rattle.hc_aggregate.proofs.laws.turns_send_well.Goals as goal

pub returns : goal.returns
returns c = turns_send_well
