use Rattle.cmd_replica.proofs.Makes.{makes-first}
use Rattle.cmd_replica.proofs.halves.finish.Goals as goal

pub returns : goal.returns
returns g c =
    makes-first c.args.node.now c.finish.new.self c.in_ok-sends.sends c.left_of-left.result c.in_ok-sends.ensures.state c.in_ok-sends.ensures.sends c.left_of-left.ensures
