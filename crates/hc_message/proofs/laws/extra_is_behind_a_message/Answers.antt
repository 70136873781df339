use Rattle.hc_message.proofs.Taken.{extra_is_behind_a_message}
use Rattle.hc_message.proofs.laws.extra_is_behind_a_message.Goals as goal

pub returns : goal.returns
returns c = extra_is_behind_a_message
