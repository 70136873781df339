use Rattle.hc_message.proofs.Prefixes.{tag_is_the_first_byte}
use Rattle.hc_message.proofs.laws.tag_is_the_first_byte.Goals as goal

pub returns : goal.returns
returns c = tag_is_the_first_byte
