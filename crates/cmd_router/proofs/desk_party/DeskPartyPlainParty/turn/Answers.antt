use Rattle.r2_desk.proofs.Passes.{passes-count}
use Rattle.cmd_router.proofs.Counted.{counts-more}
use Rattle.cmd_router.proofs.desk_party.DeskPartyPlainParty.turn.Goals as goal

pub returns-clause-sends : goal.returns-clause-sends
returns-clause-sends g c = λ first events sent before.
    counts-more first.pass c.args.self.now.pass c.turn.new.pass events c.args.event.now sent c.in_ok-turned.turned.sends before
    (passes-count 0 c.in_ok-turned.turned.number c.args.self.now.pass c.turn.new.pass c.args.event.now c.in_ok-turned.turned.sends c.in_ok-turned.ensures.turned)
