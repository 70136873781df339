-- What is said over the members is said over those that were read.
use Rattle.std.proofs.Common.{Some, ap, rules}
use Rattle.hc_text.proofs.Replays.{apart_along}
use Rattle.hc_text.proofs.aggregator_words.read_aggregator.Goals as goal

pub returns-in_err-listen-clause-only : goal.returns-in_err-listen-clause-only
returns-in_err-listen-clause-only c = λ listen members turns says. search (rules, c.in_err-listen.ensures.only listen says.listens)

pub returns-in_err-members-clause-only : goal.returns-in_err-members-clause-only
returns-in_err-members-clause-only c = λ listen members turns says. search (rules, c.in_err-members.ensures.only members says.group)

pub returns-in_err-turns-clause-only : goal.returns-in_err-turns-clause-only
returns-in_err-turns-clause-only c = λ listen members turns says. search (rules, c.in_err-turns.ensures.only turns says.ends)

pub returns-then-not-is_apart-clause-only : goal.returns-then-not-is_apart-clause-only
returns-then-not-is_apart-clause-only c = λ listen members turns says.
    let same = c.in_ok-listen.ensures.only listen says.listens in
    let same' = c.in_ok-members.ensures.only members says.group in
    let yes = c.is_apart.ensures.1 (apart_along (ap Some same) same' says.apart) in
    absurd (search (rules, yes))
