use Rattle.std.proofs.Common.{[], sym, subst, length}
use Rattle.hc_aggregate.specs.Sound.{IsSound, IsTally}
use Rattle.hc_aggregate.specs.Tally.{Tally}
use Rattle.hc_aggregate.specs.Turn.{Comes, counts, hear_ack}
use Rattle.hc_aggregate.proofs.Outcomes.{acknowledged_tally, ok_weaker}
use Rattle.hc_aggregate.proofs.Tallies.{tally_with_reached}
use Rattle.hc_aggregate.proofs.aggregator.Aggregator.hear_ack.Goals as goal

pub count-requires-clause-tally : goal.count-requires-clause-tally
count-requires-clause-tally c =
    let s = c.args.self.now in
    let noted = acknowledged_tally s _ c.in_ok-tally.tally c.note.new.self c.args.member c.args.index c.self.view_is c.in_ok-tally.ensures c.note.ensures in
    subst (IsTally (length s.members)) (sym noted)
    (tally_with_reached (length s.members) s.tally c.args.member c.args.index c.requires.member c.requires.index (subst IsSound c.self.view_is c.self.invariant).tally)

pub returns-clause-comes : goal.returns-clause-comes
unfolding hear_ack
returns-clause-comes c =
    let s = c.args.self.now in
    let noted = acknowledged_tally s _ c.in_ok-tally.tally c.note.new.self c.args.member c.args.index c.self.view_is c.in_ok-tally.ensures c.note.ensures in
    ok_weaker _ _ c.count-2.result
    (λ all comes. subst (λ (t : Tally). Comes s (counts s.members [] t) all c.count-2.new.self) noted (comes [] c.new.ensures.items)) c.count-2.ensures.comes
