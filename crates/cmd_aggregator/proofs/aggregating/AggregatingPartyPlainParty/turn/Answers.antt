use Rattle.cmd_aggregator.specs.declared.aggregating.AggregatingParty.{AggregatingParty}
use Rattle.cmd_aggregator.proofs.Aggregates.{turn-sends}
use Rattle.cmd_aggregator.proofs.aggregating.AggregatingPartyPlainParty.turn.Goals as goal

pub returns-clause-sends : goal.returns-clause-sends
returns-clause-sends c =
    turn-sends (λ (p : AggregatingParty). p.aggregator) c.args.self.now.aggregator c.turn.new.self c.args.event.now c.turn.result c.turn.ensures.turn
