use Rattle.hc_message.proofs.Again.{bytes_behind_are_extra}
use Rattle.hc_message.proofs.laws.bytes_behind_are_extra.Goals as goal

pub returns : goal.returns
returns c = bytes_behind_are_extra
