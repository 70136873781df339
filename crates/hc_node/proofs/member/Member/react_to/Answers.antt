-- The row, and then what follows it, are the reaction.
use Rattle.std.proofs.Common.{◌≡◌, Option, sym, ap, ◌∙◌}
use Rattle.hc_log.specs.declared.record.Record.{Record}
use Rattle.hc_member.specs.Member.{Member}
use Rattle.hc_member.specs.Turn.{reacted_to}
use Rattle.hc_node.specs.Sends.{AreSent}
use Rattle.hc_node.proofs.Settling.{for-ok, reacted-member, reacted-sends, reacted-stored, row-leads, settled-known}
use Rattle.hc_node.proofs.TurnRows.{always}
use Rattle.hc_node.proofs.member.Member.react_to.Goals as goal

pub settle-requires-clause-sound : goal.settle-requires-clause-sound
settle-requires-clause-sound g c κs within =
    rw c.in_ok-keep.ensures.state
    (row-leads c.args.setup.now c.requires.setup c.args.self.now c.args.said c.requires.sayable c.requires.sound).sound

pub settle-requires-clause-keep : goal.settle-requires-clause-keep
settle-requires-clause-keep g c κs within =
    rw (c.in_ok-keep.ensures.state, c.in_ok-keep.ensures.keep)
    (row-leads c.args.setup.now c.requires.setup c.args.self.now c.args.said c.requires.sayable c.requires.sound).keep

pub settle-requires-clause-few : goal.settle-requires-clause-few
settle-requires-clause-few g c κs within =
    rw (c.in_ok-keep.ensures.state, c.in_ok-keep.ensures.keep)
    (row-leads c.args.setup.now c.requires.setup c.args.self.now c.args.said c.requires.sayable c.requires.sound).few

pub stored-requires-clause-keep : goal.stored-requires-clause-keep
stored-requires-clause-keep g c κs within =
    let s = c.args.setup.now in
    let same : c.settle.new.self ≡ _ =
    c.in_ok-settle.ensures.state
    ∙ settled-known s c.args.self.now c.args.said c.row.new.self c.in_ok-keep.keep c.in_ok-keep.ensures.state c.in_ok-keep.ensures.keep in
    rw (same, c.in_ok-keep.ensures.keep) (row-leads s c.requires.setup c.args.self.now c.args.said c.requires.sayable c.requires.sound).after

pub returns-clause-state : goal.returns-clause-state
returns-clause-state g c =
    let s = c.args.setup.now in
    always c.stored.result (c.settle.new.self ≡ (reacted_to s c.args.self.now c.args.said).member)
    (c.in_ok-settle.ensures.state
    ∙ reacted-member s c.args.self.now c.args.said c.row.new.self c.in_ok-keep.keep c.in_ok-keep.ensures.state c.in_ok-keep.ensures.keep)

pub returns-clause-sends : goal.returns-clause-sends
returns-clause-sends g c =
    let s = c.args.setup.now in
    always c.stored.result
    (AreSent s (reacted_to s c.args.self.now c.args.said).sends c.args.sends.now.items c.settle.new.sends.items)
    (reacted-sends s c.args.self.now c.args.said c.row.new.self c.in_ok-keep.keep c.args.sends.now.items c.row.new.sends.items c.settle.new.sends.items
    c.in_ok-keep.ensures.state c.in_ok-keep.ensures.keep c.in_ok-keep.ensures.sends c.in_ok-settle.ensures.sends)

pub returns-clause-stored : goal.returns-clause-stored
returns-clause-stored g c =
    let s = c.args.setup.now in
    let m = c.args.self.now in
    let done = c.in_ok-settle.ensures.state
    ∙ reacted-member s m c.args.said c.row.new.self c.in_ok-keep.keep c.in_ok-keep.ensures.state c.in_ok-keep.ensures.keep in
    for-ok c.stored.result
    (λ (stored : Option Record) told.
    told m (sym (ap (λ (x : Member). x.term) c.self.view_is)) (sym (ap (λ (x : Member). x.vote) c.self.view_is)) (sym c.last_index-last.ensures)
    ∙ reacted-stored s c.requires.setup m c.args.said c.settle.new.self c.in_ok-keep.keep c.in_ok-keep.ensures.keep done)
    c.stored.ensures
