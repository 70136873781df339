use Rattle.std.proofs.Common.{rules}
use Rattle.hc_text.proofs.router_words.read_router.Goals as goal

pub returns-in_err-addr-clause-only : goal.returns-in_err-addr-clause-only
returns-in_err-addr-clause-only c = λ listen servers n workers tick_ms turns says. search (rules, c.in_err-addr.ensures.only listen says.listens)

pub returns-in_err-addrs-clause-only : goal.returns-in_err-addrs-clause-only
returns-in_err-addrs-clause-only c = λ listen servers n workers tick_ms turns says. search (rules, c.in_err-addrs.ensures.only servers says.targets)

pub returns-in_err-number-clause-only : goal.returns-in_err-number-clause-only
returns-in_err-number-clause-only c = λ listen servers n workers tick_ms turns says. search (rules, c.in_err-number.ensures.only n says.bounded)

pub returns-in_err-number-2-clause-only : goal.returns-in_err-number-2-clause-only
returns-in_err-number-2-clause-only c = λ listen servers n workers tick_ms turns says. search (rules, c.in_err-number-2.ensures.only workers says.works)

pub returns-in_err-number-3-clause-only : goal.returns-in_err-number-3-clause-only
returns-in_err-number-3-clause-only c = λ listen servers n workers tick_ms turns says. search (rules, c.in_err-number-3.ensures.only tick_ms says.ticks)

pub returns-in_err-number-4-clause-only : goal.returns-in_err-number-4-clause-only
returns-in_err-number-4-clause-only c = λ listen servers n workers tick_ms turns says. search (rules, c.in_err-number-4.ensures.only turns says.ends)
