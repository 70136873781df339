use Rattle.cmd_replica.proofs.Makes.{makes-second}
use Rattle.cmd_replica.proofs.halves.react.Goals as goal

pub returns : goal.returns
returns g c =
    makes-second c.args.node.now c.react.new.self c.args.event.now c.in_ok-turn.turn c.left_of-left.result
    c.in_ok-turn.ensures.state c.in_ok-turn.ensures.stored c.in_ok-turn.ensures.sends c.in_ok-turn.ensures.changed c.left_of-left.ensures
