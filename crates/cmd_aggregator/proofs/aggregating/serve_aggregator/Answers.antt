-- A loop over a new aggregator is one over its turns, and as no tick is due it is one without a clock.
use Rattle.std.proofs.Common.{inl, [], refl, arith}
use Rattle.cmd_loop.specs.Happenings.{events_of}
use Rattle.cmd_loop.specs.Plain.{Unstored}
use Rattle.cmd_loop.proofs.Passing.{Passes-nothing}
use Rattle.cmd_loop.proofs.Weaker.{serves-calm, serves-weaker}
use Rattle.cmd_aggregator.specs.Aggregates.{AggregatorSends}
use Rattle.cmd_aggregator.proofs.Aggregates.{aggregator-sends, sends-once}
use Rattle.cmd_aggregator.proofs.Untimed.{beside_still, serves-untimed, untimed}
use Rattle.cmd_aggregator.proofs.aggregating.serve_aggregator.Goals as goal

pub returns-in_default-clause-ran : goal.returns-in_default-clause-ran
returns-in_default-clause-ran g c = ([], inl (refl, (Passes-nothing (beside_still (g.L.Link.told c.args.link.now))).link))

pub returns-clause-ran : goal.returns-clause-ran
returns-clause-ran g c =
    let sends = AggregatorSends c.args.me c.args.members in
    let rule = Unstored sends in
    let begun = c.in-Ok.ensures in
    let last = c.serve_without_journal.new.party in
    serves-untimed sends (sends-once c.args.me c.args.members) c.args.turns (g.L.Link.told c.args.link.now) (g.L.Link.told c.serve_without_journal.new.link) c.serve_without_journal.result
    (
    serves-weaker _ rule _ rule _ rule
    (λ happened stored sent right. (right.0, aggregator-sends c.args.me c.args.members c.in-Ok.aggregator last.party.aggregator (events_of happened) sent begun right.1))
    (λ happened stored sent right. (right.0, aggregator-sends c.args.me c.args.members c.in-Ok.aggregator last.party.aggregator (events_of happened) sent begun right.1))
    (λ happened stored sent right. (right.0, aggregator-sends c.args.me c.args.members c.in-Ok.aggregator right.1.0.aggregator (events_of happened) sent begun right.1.1))
    (untimed c.args.turns) (beside_still (g.L.Link.told c.args.link.now)) (beside_still (g.L.Link.told c.serve_without_journal.new.link))
    c.serve_without_journal.result (c.serve_without_journal.ensures.ran (beside_still (g.L.Link.told c.args.link.now)))
    )
    (λ is. omega (arith, c.serve_without_journal.ensures.caused.disk is)) (λ is. omega (arith, c.serve_without_journal.ensures.caused.clock is))

pub returns-clause-complete : goal.returns-clause-complete
returns-clause-complete g c = λ no_link.
    serves-calm _ _ _ (untimed c.args.turns) (beside_still (g.L.Link.told c.args.link.now)) (beside_still (g.L.Link.told c.serve_without_journal.new.link))
    (g.L.Link.faults c.args.link.now) (g.L.Link.faults c.serve_without_journal.new.link) 0 0
    c.serve_without_journal.result (c.serve_without_journal.ensures.ran (beside_still (g.L.Link.told c.args.link.now))) c.serve_without_journal.ensures.caused
    no_link (λ rose. omega (arith, rose))
