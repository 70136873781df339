use Rattle.cmd_server.specs.declared.serving.ServingParty.{ServingParty}
use Rattle.cmd_server.proofs.PlainTurns.{turn-sends}
use Rattle.cmd_server.proofs.serving.ServingPartyPlainParty.turn.Goals as goal

pub returns-clause-sends : goal.returns-clause-sends
returns-clause-sends g c =
    turn-sends (λ (p : ServingParty g.row.V.Denot g.row.V-Ticket.Denot). p.server) c.args.self.now.server c.turn.new.self c.args.event.now c.turn.result c.turn.ensures.state c.turn.ensures.sends
