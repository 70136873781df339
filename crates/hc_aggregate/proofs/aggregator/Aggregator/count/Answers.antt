use Rattle.std.proofs.Common.{◌≡◌, Some, None, sym, ap, ◌∙◌, length, append-nil}
use Rattle.hc_aggregate.specs.Tally.{found}
use Rattle.hc_aggregate.specs.Turn.{AggregatorState, with_tally}
use Rattle.hc_aggregate.proofs.Found.{found-is, found-within}
use Rattle.hc_aggregate.proofs.Outcomes.{comes_of, ok_both}
use Rattle.hc_aggregate.proofs.aggregator.Aggregator.count.Goals as goal

pub found-requires-clause-each : goal.found-requires-clause-each
found-requires-clause-each c =
    c.requires.tally.each ∙ ap (λ (s : AggregatorState). length s.members) (sym c.self.view_is) ∙ sym c.len.ensures

pub commit-requires-clause-index : goal.commit-requires-clause-index
commit-requires-clause-index c =
    let is : found c.args.tally ≡ Some c.in-Some.index = sym c.in-Some.ensures in
    found-within _ c.args.tally c.in-Some.index c.requires.tally (found-is c.args.tally c.in-Some.index is)

pub returns-in-Some-clause-comes : goal.returns-in-Some-clause-comes
returns-in-Some-clause-comes c =
    let is : found c.args.tally ≡ Some c.in-Some.index = sym c.in-Some.ensures in
    ok_both _ _ _ c.commit.result (
    λ all sends becomes told before.
    comes_of c.args.self.now c.commit.new.self c.args.tally (Some c.in-Some.index) told c.args.sends.items all is before sends becomes
    ) c.commit.ensures.sends c.commit.ensures.tally

pub returns-in-None-clause-comes : goal.returns-in-None-clause-comes
returns-in-None-clause-comes c told before =
    let is : found c.args.tally ≡ None = sym c.in-None.ensures in
    comes_of c.args.self.now _ c.args.tally None told c.args.sends.items c.from_vec.result is before (c.from_vec.ensures ∙ sym (append-nil c.args.sends.items))
    (ap (λ (s : AggregatorState). with_tally s c.args.tally) c.self.view_is)
