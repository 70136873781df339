use Rattle.std.proofs.Common.{rules}
use Rattle.hc_text.proofs.server_words.read_server.Goals as goal

pub returns-in_err-addr-clause-only : goal.returns-in_err-addr-clause-only
returns-in_err-addr-clause-only c = λ listen router tick_ms turns says. search (rules, c.in_err-addr.ensures.only listen says.listens)

pub returns-in_err-number-clause-only : goal.returns-in_err-number-clause-only
returns-in_err-number-clause-only c = λ listen router tick_ms turns says. search (rules, c.in_err-number.ensures.only tick_ms says.ticks)

pub returns-in_err-number-2-clause-only : goal.returns-in_err-number-2-clause-only
returns-in_err-number-2-clause-only c = λ listen router tick_ms turns says. search (rules, c.in_err-number-2.ensures.only turns says.ends)
