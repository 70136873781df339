use Rattle.cmd_loop.proofs.Plains.{plain-reacts}
use Rattle.cmd_loop.proofs.plain.PlainAnyParty.react.Goals as goal

pub returns-clause-turn : goal.returns-clause-turn
returns-clause-turn g c replies first before records sent finished =
    plain-reacts g.T.PlainParty.turned c.args.self.now.party c.turn.new.self c.args.event.now c.in_ok-sends.sends c.in_ok-sends.ensures.sends replies first.party before records sent finished
