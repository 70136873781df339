use Rattle.hc_store.proofs.Spells.{a_spelling_is_read}
use Rattle.hc_store.proofs.laws.a_spelling_is_read.Goals as goal

pub returns : goal.returns
returns c = a_spelling_is_read
