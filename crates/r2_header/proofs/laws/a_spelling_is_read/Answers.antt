use Rattle.r2_header.proofs.Sound.{spelling_is_read}
use Rattle.r2_header.proofs.laws.a_spelling_is_read.Goals as goal

pub returns : goal.returns
returns c = spelling_is_read
