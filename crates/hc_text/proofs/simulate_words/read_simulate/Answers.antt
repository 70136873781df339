-- Each option that is read is what is said of it.
use Rattle.std.proofs.Common.{arith, rules}
use Rattle.hc_text.proofs.Replays.{bounds_along}
use Rattle.hc_text.proofs.simulate_words.read_simulate.Goals as goal

pub returns-in_err-seed-clause-only : goal.returns-in_err-seed-clause-only
returns-in_err-seed-clause-only c = λ seed members requests loss repeat crash bounds aggregator says. search (rules, c.in_err-seed.ensures.only seed says.seeded)

pub returns-in_err-members-clause-only : goal.returns-in_err-members-clause-only
returns-in_err-members-clause-only c = λ seed members requests loss repeat crash bounds aggregator says. search (rules, c.in_err-members.ensures.only members says.group)

pub returns-in_err-requests-clause-only : goal.returns-in_err-requests-clause-only
returns-in_err-requests-clause-only c = λ seed members requests loss repeat crash bounds aggregator says. search (rules, c.in_err-requests.ensures.only requests says.asked)

pub returns-in_err-loss-clause-only : goal.returns-in_err-loss-clause-only
returns-in_err-loss-clause-only c = λ seed members requests loss repeat crash bounds aggregator says. search (rules, c.in_err-loss.ensures.only loss says.loses)

pub returns-in_err-repeat-clause-only : goal.returns-in_err-repeat-clause-only
returns-in_err-repeat-clause-only c = λ seed members requests loss repeat crash bounds aggregator says. search (rules, c.in_err-repeat.ensures.only repeat says.repeats)

pub returns-in_err-crash-clause-only : goal.returns-in_err-crash-clause-only
returns-in_err-crash-clause-only c = λ seed members requests loss repeat crash bounds aggregator says. search (rules, c.in_err-crash.ensures.only crash says.crashes)

pub returns-in_err-bounds-clause-only : goal.returns-in_err-bounds-clause-only
returns-in_err-bounds-clause-only c = λ seed members requests loss repeat crash bounds aggregator says.
    let same = c.in_ok-members.ensures.only members says.group in
    search (rules, c.in_err-bounds.ensures.only bounds (bounds_along (omega (arith, same)) says.bounded))
