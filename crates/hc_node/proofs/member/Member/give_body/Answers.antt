use Rattle.hc_node.proofs.Held.{given-sent}
use Rattle.hc_node.proofs.member.Member.give_body.Goals as goal

pub recover-requires-clause-sent : goal.recover-requires-clause-sent
recover-requires-clause-sent g c =
    rw c.in_ok-body.ensures (given-sent c.args.setup.now c.args.self.now c.args.member c.args.rid _ c.requires.sound c.in-Some.ensures)
