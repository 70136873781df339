use Rattle.std.proofs.Common.{sym, ap, ◌∙◌}
use Rattle.hc_node.proofs.TurnRows.{is_told, keeps-row}
use Rattle.hc_node.proofs.member.Member.row.Goals as goal

pub returns-in_ok-hear_request-in-Whole-clause-keep :
    goal.returns-in_ok-hear_request-in-Whole-clause-keep
returns-in_ok-hear_request-in-Whole-clause-keep g c =
    c.last_index-last.ensures ∙ sym (keeps-row c.args.setup.now c.args.self.now c.args.said (ap is_told c.in-Whole.is))

pub returns-in_ok-hear_recovered-in-Recovered-clause-keep :
    goal.returns-in_ok-hear_recovered-in-Recovered-clause-keep
returns-in_ok-hear_recovered-in-Recovered-clause-keep g c =
    c.last_index-last.ensures ∙ sym (keeps-row c.args.setup.now c.args.self.now c.args.said (ap is_told c.in-Recovered.is))

pub returns-in_ok-tick-in-Time-clause-keep : goal.returns-in_ok-tick-in-Time-clause-keep
returns-in_ok-tick-in-Time-clause-keep g c =
    c.last_index-last.ensures ∙ sym (keeps-row c.args.setup.now c.args.self.now c.args.said (ap is_told c.in-Time.is))
