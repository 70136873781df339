use Rattle.hc_message.proofs.Sizes.{spellings_are_short}
use Rattle.hc_message.proofs.laws.spellings_are_short.Goals as goal

pub returns : goal.returns
returns c = spellings_are_short
