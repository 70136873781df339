use Rattle.hc_message.proofs.Prefixes.{range_stays}
use Rattle.hc_message.proofs.laws.range_stays.Goals as goal

pub returns : goal.returns
returns c = range_stays
