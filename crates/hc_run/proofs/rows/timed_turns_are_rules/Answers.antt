use Rattle.hc_run.proofs.Receiving.{timed_turns}
use Rattle.hc_run.proofs.rows.timed_turns_are_rules.Goals as goal

pub returns : goal.returns
returns c = timed_turns
