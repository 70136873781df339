use Rattle.hc_run.proofs.Receiving.{request_turns}
use Rattle.hc_run.proofs.rows.request_turns_are_rules.Goals as goal

pub returns : goal.returns
returns c = request_turns
