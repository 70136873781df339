use Rattle.hc_message.proofs.Again.{spelling_is_read}
use Rattle.hc_message.proofs.laws.a_spelling_is_read.Goals as goal

pub returns : goal.returns
returns c = spelling_is_read
