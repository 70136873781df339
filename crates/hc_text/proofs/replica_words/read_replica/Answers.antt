-- What is said of the member and its group is what was read of them, and so is each further option.
use Rattle.std.proofs.Common.{rules}
use Rattle.hc_text.proofs.replica_words.read_replica.Goals as goal

pub returns-in_err-group-clause-only : goal.returns-in_err-group-clause-only
returns-in_err-group-clause-only c = λ members me journal aggregator bounds election tick_ms turns says.
    search (rules, c.in_err-group.ensures.only members me aggregator bounds election says.member)

pub returns-in_err-journal-clause-only : goal.returns-in_err-journal-clause-only
returns-in_err-journal-clause-only c = λ members me journal aggregator bounds election tick_ms turns says.
    search (rules, c.in_err-journal.ensures.only journal says.keeps)

pub returns-in_err-tick_ms-clause-only : goal.returns-in_err-tick_ms-clause-only
returns-in_err-tick_ms-clause-only c = λ members me journal aggregator bounds election tick_ms turns says.
    search (rules, c.in_err-tick_ms.ensures.only tick_ms says.ticks)

pub returns-in_err-turns-clause-only : goal.returns-in_err-turns-clause-only
returns-in_err-turns-clause-only c = λ members me journal aggregator bounds election tick_ms turns says.
    search (rules, c.in_err-turns.ensures.only turns says.ends)
