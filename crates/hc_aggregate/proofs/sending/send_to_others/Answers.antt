use Rattle.hc_aggregate.proofs.Outcomes.{handed_on, on_ok}
use Rattle.hc_aggregate.proofs.sending.send_to_others.Goals as goal

pub returns : goal.returns
returns c =
    on_ok _ _ c.send_each-2.result (
    handed_on c.args.from c.args.members.now c.args.member c.from-place.result c.args.bytes.now c.args.sends.now.items c.send_each.new.sends.items c.send_each-2.new.sends.items
    c.from-place.ensures c.in_ok-send_each.ensures
    ) c.send_each-2.ensures
