use Rattle.hc_run.proofs.Receiving.{message_turns}
use Rattle.hc_run.proofs.rows.message_turns_are_rules.Goals as goal

pub returns : goal.returns
returns c = message_turns
