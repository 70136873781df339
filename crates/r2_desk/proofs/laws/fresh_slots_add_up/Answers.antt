use Rattle.r2_desk.proofs.Beginnings.{slots-add-up}
use Rattle.r2_desk.proofs.laws.fresh_slots_add_up.Goals as goal

pub returns : goal.returns
returns c = slots-add-up
