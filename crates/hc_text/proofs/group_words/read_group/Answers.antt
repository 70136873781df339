-- What is said over the members is said over those that were read.
use Rattle.std.proofs.Common.{ap, arith, length, rules}
use Rattle.hc_text.proofs.Replays.{apart_along, bounds_along, own_number}
use Rattle.hc_text.proofs.group_words.read_group.Goals as goal

pub returns-in_err-members-clause-only : goal.returns-in_err-members-clause-only
returns-in_err-members-clause-only c = λ members me aggregator bounds election says. search (rules, c.in_err-members.ensures.only members says.group)

pub returns-in_err-me-clause-only : goal.returns-in_err-me-clause-only
returns-in_err-me-clause-only c = λ members me aggregator bounds election says.
    let same = c.in_ok-members.ensures.only members says.group in
    search (rules, c.in_err-me.ensures.only me (own_number says.own (omega (arith, ap length same))))

pub returns-in_err-bounds-clause-only : goal.returns-in_err-bounds-clause-only
returns-in_err-bounds-clause-only c = λ members me aggregator bounds election says.
    let same = c.in_ok-members.ensures.only members says.group in
    search (rules, c.in_err-bounds.ensures.only bounds (bounds_along (omega (arith, ap length same)) says.bounded))

pub returns-in_err-election-clause-only : goal.returns-in_err-election-clause-only
returns-in_err-election-clause-only c = λ members me aggregator bounds election says. search (rules, c.in_err-election.ensures.only election says.elects)

pub returns-then-not-is_apart-clause-only : goal.returns-then-not-is_apart-clause-only
returns-then-not-is_apart-clause-only c = λ members me aggregator bounds election says.
    let same = c.in_ok-members.ensures.only members says.group in
    let same' = c.in_ok-aggregator.ensures.only aggregator says.aggregated in
    let yes = c.is_apart.ensures.1 (apart_along same' same says.apart) in
    absurd (search (rules, yes))
