use Rattle.hc_run.proofs.AggregatorTurns.{aggregator_turns}
use Rattle.hc_run.proofs.rows.aggregator_turns_are_rules.Goals as goal

pub returns : goal.returns
returns c = aggregator_turns
