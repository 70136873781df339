use Rattle.hc_store.proofs.Spells.{what_is_read_is_spelled}
use Rattle.hc_store.proofs.laws.what_is_read_is_spelled.Goals as goal

pub returns : goal.returns
returns c = what_is_read_is_spelled
