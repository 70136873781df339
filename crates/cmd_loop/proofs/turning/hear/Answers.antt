use Rattle.cmd_loop.proofs.Steps.{reacts-part}
use Rattle.cmd_loop.proofs.turning.hear.Goals as goal

pub returns-clause-stops : goal.returns-clause-stops
returns-clause-stops g c o =
    reacts-part g.P.Party.turned g.P.Party.finished c.args.party.now c.react.new.self c.args.event.now c.args.replies.now c.in-Ok.turn.stored c.in-Ok.turn.sends
    (g.L.Link.told c.args.link.now) (g.L.Link.told c.send_turn.new.link) (g.J.Journal.records c.args.journal.now) (g.J.Journal.records c.store.new.journal) o
    c.in-Ok.ensures.turn c.in_default-store.ensures.stored (rw c.as_slice.ensures at c.in-Err-send_turn.ensures.part)
