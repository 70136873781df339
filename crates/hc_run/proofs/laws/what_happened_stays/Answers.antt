use Rattle.hc_run.proofs.Staying.{what_happened_stays}
use Rattle.hc_run.proofs.laws.what_happened_stays.Goals as goal

pub returns : goal.returns
returns c = what_happened_stays
