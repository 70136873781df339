use Rattle.hc_message.proofs.Taken.{what_is_read_is_spelled}
use Rattle.hc_message.proofs.laws.what_is_read_is_spelled.Goals as goal

pub returns : goal.returns
returns c = what_is_read_is_spelled
