-- Only an Order cuts entries of the log, and only some messages are answered.
use Rattle.std.proofs.Common.{sym, ap, ◌∙◌}
use Rattle.hc_member.specs.Turn.{told}
use Rattle.hc_node.proofs.TurnRows.{is_order, is_quiet, keeps-told, none-sent, quiet-told}
use Rattle.hc_node.proofs.member.Member.hear_told.Goals as goal

pub returns-in_ok-hear_vote_request-in-VoteReq-clause-keep :
    goal.returns-in_ok-hear_vote_request-in-VoteReq-clause-keep
returns-in_ok-hear_vote_request-in-VoteReq-clause-keep g c =
    c.last_index-last.ensures ∙ sym (keeps-told c.args.setup.now c.args.self.now c.args.from c.args.message.now (ap is_order c.in-VoteReq.is))

pub returns-in_ok-hear_vote-in-Vote-clause-keep : goal.returns-in_ok-hear_vote-in-Vote-clause-keep
returns-in_ok-hear_vote-in-Vote-clause-keep g c =
    c.last_index-last.ensures ∙ sym (keeps-told c.args.setup.now c.args.self.now c.args.from c.args.message.now (ap is_order c.in-Vote.is))

pub returns-in_ok-hear_vote-in-Vote-clause-sends :
    goal.returns-in_ok-hear_vote-in-Vote-clause-sends
returns-in_ok-hear_vote-in-Vote-clause-sends g c =
    none-sent c.args.setup.now (told c.args.setup.now c.args.self.now c.args.from c.args.message.now).sends c.args.sends.now.items
    (quiet-told c.args.setup.now c.args.self.now c.args.from c.args.message.now (ap is_quiet c.in-Vote.is))

pub returns-else-not-is_from_member-3-clause-keep :
    goal.returns-else-not-is_from_member-3-clause-keep
returns-else-not-is_from_member-3-clause-keep g c =
    c.last_index-last.ensures ∙ sym (keeps-told c.args.setup.now c.args.self.now c.args.from c.args.message.now (ap is_order c.in-Ack.is))

pub returns-else-not-is_from_member-3-clause-sends :
    goal.returns-else-not-is_from_member-3-clause-sends
returns-else-not-is_from_member-3-clause-sends g c =
    none-sent c.args.setup.now (told c.args.setup.now c.args.self.now c.args.from c.args.message.now).sends c.args.sends.now.items
    (quiet-told c.args.setup.now c.args.self.now c.args.from c.args.message.now (ap is_quiet c.in-Ack.is))

pub returns-in_ok-hear_nack-in-Nack-clause-keep : goal.returns-in_ok-hear_nack-in-Nack-clause-keep
returns-in_ok-hear_nack-in-Nack-clause-keep g c =
    c.last_index-last.ensures ∙ sym (keeps-told c.args.setup.now c.args.self.now c.args.from c.args.message.now (ap is_order c.in-Nack.is))

pub returns-then-is_from_aggregator-clause-keep : goal.returns-then-is_from_aggregator-clause-keep
returns-then-is_from_aggregator-clause-keep g c =
    c.last_index-last.ensures ∙ sym (keeps-told c.args.setup.now c.args.self.now c.args.from c.args.message.now (ap is_order c.in-AggCommit.is))

pub returns-then-is_from_aggregator-clause-sends :
    goal.returns-then-is_from_aggregator-clause-sends
returns-then-is_from_aggregator-clause-sends g c =
    none-sent c.args.setup.now (told c.args.setup.now c.args.self.now c.args.from c.args.message.now).sends c.args.sends.now.items
    (quiet-told c.args.setup.now c.args.self.now c.args.from c.args.message.now (ap is_quiet c.in-AggCommit.is))
