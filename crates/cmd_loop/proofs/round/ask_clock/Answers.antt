use Rattle.std.proofs.Common.{sym, ◌∙◌}
use Rattle.cmd_loop.proofs.Ticks.{none-due, tick-made, tick-stops}
use Rattle.cmd_loop.proofs.round.ask_clock.Goals as goal

pub returns-else-pass_tick-clause-made : goal.returns-else-pass_tick-clause-made
returns-else-pass_tick-clause-made g c o =
    none-due g.P.Party.turned c.args.party.now c.args.ticker.now c.pass_tick.new.self (g.L.Link.told c.args.link.now) (g.J.Journal.records c.args.journal.now)
    (g.C.Clock.left c.args.clock.now) (g.C.Clock.left c.now.new.self) c.in-Ok.moment o c.in-Ok.ensures.moment (sym c.pass_tick.ensures.due ∙ c.if-pass_tick.false) c.pass_tick.ensures.counted

pub returns-in_default-make_tick-clause-made : goal.returns-in_default-make_tick-clause-made
returns-in_default-make_tick-clause-made g c o =
    tick-made g.P.Party.turned c.args.party.now c.make_tick.new.party c.args.ticker.now c.pass_tick.new.self (g.L.Link.told c.args.link.now) (g.L.Link.told c.make_tick.new.link)
    (g.J.Journal.records c.args.journal.now) (g.J.Journal.records c.make_tick.new.journal) (g.C.Clock.left c.args.clock.now) (g.C.Clock.left c.now.new.self) c.in-Ok.moment o
    c.in-Ok.ensures.moment (sym c.pass_tick.ensures.due ∙ c.if-pass_tick.true) c.pass_tick.ensures.counted (c.in_default-make_tick.ensures.made (record o { clock = g.C.Clock.left c.now.new.self }))

pub returns-in-Err-clause-stops : goal.returns-in-Err-clause-stops
returns-in-Err-clause-stops g c o =
    tick-stops g.P.Party.turned c.args.party.now c.args.ticker.now (g.L.Link.told c.args.link.now) (g.L.Link.told c.make_tick.new.link)
    (g.J.Journal.records c.args.journal.now) (g.J.Journal.records c.make_tick.new.journal) (g.C.Clock.left c.args.clock.now) (g.C.Clock.left c.now.new.self) c.in-Ok.moment o c.in-Err.status
    c.in-Ok.ensures.moment (sym c.pass_tick.ensures.due ∙ c.if-pass_tick.true) (c.in-Err.ensures.stops (record o { clock = g.C.Clock.left c.now.new.self }))
