use Rattle.hc_node.proofs.VoteRows.{risen-term}
use Rattle.hc_node.proofs.member.Member.hear_vote_request.Goals as goal

pub vote_on-requires-2-clause-term : goal.vote_on-requires-2-clause-term
vote_on-requires-2-clause-term g c κs within =
    rw c.rise_to.ensures (risen-term c.args.setup.now c.args.self.now c.args.term c.requires.term c.requires.sound)
