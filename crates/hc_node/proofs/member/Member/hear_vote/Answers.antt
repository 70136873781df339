use Rattle.std.proofs.Common.{sym}
use Rattle.hc_node.proofs.VoteRows.{may-win}
use Rattle.hc_node.proofs.member.Member.hear_vote.Goals as goal

pub win_if_elected-requires-clause-follows : goal.win_if_elected-requires-clause-follows
win_if_elected-requires-clause-follows g c κs within =
    rw c.count_vote.ensures (may-win c.args.setup.now c.args.self.now c.args.term c.args.granted c.requires.sound (sym c.if-not-counts_vote.ensures))
