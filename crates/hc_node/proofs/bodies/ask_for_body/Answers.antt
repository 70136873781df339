use Rattle.hc_member.proofs.Sends.{own-fits, sent-ask}
use Rattle.hc_node.proofs.bodies.ask_for_body.Goals as goal

pub recover-requires-clause-sent : goal.recover-requires-clause-sent
recover-requires-clause-sent c = sent-ask c.address_of.result c.args.rid c.args.setup.now.me (own-fits c.args.setup.now c.requires.setup)
