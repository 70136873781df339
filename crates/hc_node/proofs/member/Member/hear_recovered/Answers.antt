use Rattle.std.proofs.Common.{◌≡◌}
use Rattle.hc_member.specs.Turn.{recovered}
use Rattle.hc_node.specs.Sends.{AreSent}
use Rattle.hc_node.proofs.TurnRows.{always, none-sent, quiet-given, stays-asked}
use Rattle.hc_node.proofs.member.Member.hear_recovered.Goals as goal

pub returns-in-RecoverAsk-clause-state : goal.returns-in-RecoverAsk-clause-state
returns-in-RecoverAsk-clause-state g c =
    always c.give_body.result
    (c.args.self.now ≡ (recovered c.args.setup.now c.args.self.now c.args.from c.args.rid c.args.message).member)
    (stays-asked c.args.setup.now c.args.self.now c.args.from c.args.rid c.args.message c.in-RecoverAsk.member c.in-RecoverAsk.is)

pub returns-in-RecoverBody-clause-sends : goal.returns-in-RecoverBody-clause-sends
returns-in-RecoverBody-clause-sends g c =
    let sends = (recovered c.args.setup.now c.args.self.now c.args.from c.args.rid c.args.message).sends in
    always c.take_body.result (AreSent c.args.setup.now sends c.args.sends.now.items c.args.sends.now.items)
    (none-sent c.args.setup.now sends c.args.sends.now.items
    (quiet-given c.args.setup.now c.args.self.now c.args.from c.args.rid c.args.message c.in-RecoverBody.kind c.in-RecoverBody.body c.in-RecoverBody.is))
