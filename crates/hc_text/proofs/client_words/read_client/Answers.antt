use Rattle.std.proofs.Common.{rules}
use Rattle.hc_text.proofs.client_words.read_client.Goals as goal

pub returns-in_err-addr-clause-only : goal.returns-in_err-addr-clause-only
returns-in_err-addr-clause-only c = λ listen to policy wait tries tick_ms turns says. search (rules, c.in_err-addr.ensures.only listen says.listens)

pub returns-in_err-addrs-clause-only : goal.returns-in_err-addrs-clause-only
returns-in_err-addrs-clause-only c = λ listen to policy wait tries tick_ms turns says. search (rules, c.in_err-addrs.ensures.only to says.targets)

pub returns-in_err-policy-clause-only : goal.returns-in_err-policy-clause-only
returns-in_err-policy-clause-only c = λ listen to policy wait tries tick_ms turns says. search (rules, c.in_err-policy.ensures.only policy says.by_policy)

pub returns-in_err-number-clause-only : goal.returns-in_err-number-clause-only
returns-in_err-number-clause-only c = λ listen to policy wait tries tick_ms turns says. search (rules, c.in_err-number.ensures.only wait says.waits)

pub returns-in_err-number-2-clause-only : goal.returns-in_err-number-2-clause-only
returns-in_err-number-2-clause-only c = λ listen to policy wait tries tick_ms turns says. search (rules, c.in_err-number-2.ensures.only tries says.tried)

pub returns-in_err-number-3-clause-only : goal.returns-in_err-number-3-clause-only
returns-in_err-number-3-clause-only c = λ listen to policy wait tries tick_ms turns says. search (rules, c.in_err-number-3.ensures.only tick_ms says.ticks)

pub returns-in_err-number-4-clause-only : goal.returns-in_err-number-4-clause-only
returns-in_err-number-4-clause-only c = λ listen to policy wait tries tick_ms turns says. search (rules, c.in_err-number-4.ensures.only turns says.ends)
