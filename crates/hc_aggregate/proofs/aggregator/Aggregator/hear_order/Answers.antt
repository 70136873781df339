use Rattle.std.proofs.Common.{◌≤◌, sym, subst, length, refl}
use Rattle.std.specs.List.{remove}
use Rattle.std.specs.Prelude.{nat_lt}
use Rattle.hc_aggregate.specs.Sound.{IsSound, IsTally}
use Rattle.hc_aggregate.specs.Tally.{Tally}
use Rattle.hc_aggregate.specs.Turn.{Comes, counts, hear_order, tell_each}
use Rattle.hc_aggregate.proofs.Outcomes.{handed_order, ok_weaker, ordered_tally}
use Rattle.hc_aggregate.proofs.Tallies.{entered, tally_of_order}
use Rattle.hc_aggregate.proofs.aggregator.Aggregator.hear_order.Goals as goal

pub count-requires-clause-tally : goal.count-requires-clause-tally
count-requires-clause-tally c =
    let s = c.args.self.now in
    let noted =
    ordered_tally s _ c.in_ok-tally.tally c.enter.new.self c.note.new.self c.args.term c.args.leader c.args.term_start c.args.last c.self.view_is c.in_ok-tally.ensures c.enter.ensures c.note.ensures in
    subst (IsTally (length s.members)) (sym noted)
    (
    tally_of_order (length s.members) s.tally c.args.term c.args.leader c.args.term_start c.args.last c.requires.leader c.requires.term c.requires.start c.requires.last
    (subst IsSound c.self.view_is c.self.invariant).tally
    )

pub count-requires-clause-term : goal.count-requires-clause-term
count-requires-clause-term c =
    let s = c.args.self.now in
    let noted =
    ordered_tally s _ c.in_ok-tally.tally c.enter.new.self c.note.new.self c.args.term c.args.leader c.args.term_start c.args.last c.self.view_is c.in_ok-tally.ensures c.enter.ensures c.note.ensures in
    subst (λ (t : Tally). 1 ≤ t.term) (sym noted)
    (entered s.tally c.args.term c.args.leader c.args.term_start (nat_lt s.tally.term c.args.term) refl c.requires.least)

pub returns-clause-comes : goal.returns-clause-comes
unfolding hear_order
returns-clause-comes c =
    let s = c.args.self.now in
    let told = tell_each (remove s.members c.args.leader) c.args.order.now in
    let noted =
    ordered_tally s _ c.in_ok-tally.tally c.enter.new.self c.note.new.self c.args.term c.args.leader c.args.term_start c.args.last c.self.view_is c.in_ok-tally.ensures c.enter.ensures c.note.ensures in
    let handed =
    handed_order s _ c.args.order.now c.args.leader c.as_slice.result.now c.args.bytes.now c.new-sends.result.items c.send_to_others.new.sends.items
    c.self.view_is c.as_slice.ensures c.requires.bytes c.new-sends.ensures.items c.in_ok-send_to_others.ensures in
    ok_weaker _ _ c.count.result
    (λ all comes. subst (λ (t : Tally). Comes s (counts s.members told t) all c.count.new.self) noted (comes told handed)) c.count.ensures.comes
