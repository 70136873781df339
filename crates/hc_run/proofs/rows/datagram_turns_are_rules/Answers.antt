use Rattle.hc_run.proofs.Receiving.{datagram_turns}
use Rattle.hc_run.proofs.rows.datagram_turns_are_rules.Goals as goal

pub returns : goal.returns
returns c = datagram_turns
