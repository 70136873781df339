use Rattle.cmd_group.proofs.AggregatorLoops.{aggregators_make_turns}
use Rattle.cmd_group.proofs.laws.aggregators_make_turns.Goals as goal

pub returns : goal.returns
returns c = aggregators_make_turns
