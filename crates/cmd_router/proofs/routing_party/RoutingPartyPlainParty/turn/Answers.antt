use Rattle.std.proofs.Common.{◌+◌, refl}
use Rattle.cmd_router.proofs.Routed.{becomes-more}
use Rattle.cmd_router.proofs.routing_party.RoutingPartyPlainParty.turn.Goals as goal

pub returns-clause-sends : goal.returns-clause-sends
returns-clause-sends c = λ first events sent before.
    becomes-more first.router c.args.self.now.router c.turn.new.self first.turns c.args.self.now.turns (c.args.self.now.turns + 1) events c.args.event.now sent c.in_ok-sends.sends
    before c.in_ok-sends.ensures.sends c.in_ok-sends.ensures.stands c.in_ok-sends.ensures.setup refl
