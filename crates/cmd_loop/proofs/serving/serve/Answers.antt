use Rattle.std.proofs.Common.{◌∙◌, [], ◌∷◌, refl, ap, arith}
use Rattle.cmd_loop.specs.declared.ticker.Ticker.{Ticker}
use Rattle.cmd_loop.specs.Ends.{Ends}
use Rattle.cmd_loop.proofs.Loops.{at-next, at-start, within-of}
use Rattle.cmd_loop.proofs.Endings.{ended-closing, ended-item, ended-start, ended-tick, ended-turns}
use Rattle.cmd_loop.proofs.Passing.{silent}
use Rattle.cmd_loop.proofs.Ticks.{clock-told}
use Rattle.cmd_loop.proofs.serving.serve.Goals as goal

-- the clock had no start to give
pub returns-in_default-clause-ran : goal.returns-in_default-clause-ran
returns-in_default-clause-ran g c o =
    let link = g.L.Link.told c.args.link.now in
    let records = g.J.Journal.records c.args.journal.now in
    let first = g.C.Clock.left c.args.clock.now in
    let then = g.C.Clock.left c.now.new.self in
    ended-start g.P.Party.turned c.args.party.now _ _ c.args.pace
    (record o { link = link; clock = first; records = records }) (record o { link = link; clock = then; records = records })
    (g.met.P.Party.begins c.args.party.now) (clock-told o link records first then [] c.in_default.ensures.moment)

pub rounds-init : goal.rounds-init
rounds-init g c =
    let link = g.L.Link.told c.args.link.now in
    let records = g.J.Journal.records c.args.journal.now in
    let first = g.C.Clock.left c.args.clock.now in
    let then = g.C.Clock.left c.now.new.self in
    record {
      at = λ o. at-start g.P.Party.turned c.args.party.now c.in-Ok.start c.args.pace.tick_ms
          (record o { link = link; clock = first; records = records }) (record o { link = link; clock = then; records = records })
          (g.met.P.Party.begins c.args.party.now) (clock-told o link records first then (c.in-Ok.start ∷ []) c.in-Ok.ensures.moment);
      tick = refl;
      room = (0, omega arith, c.requires.fresh);
      recorded = c.requires.recorded;
      is_open = c.requires.open;
      same = refl;
      since = g.met.J.Journal.begins c.args.journal.now;
      steady = record { source = omega arith; sink = omega arith; link = omega arith; clock = c.in-Ok.ensures.steady; disk = omega arith };
    }

pub returns-in-Ok-false-clause-ran : goal.returns-in-Ok-false-clause-ran
returns-in-Ok-false-clause-ran g c o =
    let clock = g.C.Clock.left c.rounds.clock in
    let took = (rw c.in-Ok-false.field-0-test at c.in-Ok-false.ensures.took) (record o { clock = clock }) in
    ended-closing g.P.Party.turned g.P.Party.settled c.args.party.now c.rounds.party c.take_item.new.party c.drain.new.party c.in-Ok.start c.rounds.ticker c.rounds.made _ c.args.pace
    (record o { link = g.L.Link.told c.args.link.now; clock = g.C.Clock.left c.args.clock.now; records = g.J.Journal.records c.args.journal.now })
    (record o { link = g.L.Link.told c.rounds.link; clock = clock; records = g.J.Journal.records c.rounds.journal })
    (record o { link = g.L.Link.told c.take_item.new.link; clock = clock; records = g.J.Journal.records c.take_item.new.journal })
    (g.L.Link.told c.drain.new.link) (c.rounds.invariant.at o) c.rounds-test.true took.0 took.1 c.drain.result c.drain.ensures.drained

pub returns-in-Err-clause-ran : goal.returns-in-Err-clause-ran
returns-in-Err-clause-ran g c o =
    let clock = g.C.Clock.left c.rounds.clock in
    ended-item g.P.Party.turned c.args.party.now c.rounds.party c.in-Ok.start c.rounds.ticker c.rounds.made _ _ c.args.pace
    (record o { link = g.L.Link.told c.args.link.now; clock = g.C.Clock.left c.args.clock.now; records = g.J.Journal.records c.args.journal.now })
    (record o { link = g.L.Link.told c.rounds.link; clock = clock; records = g.J.Journal.records c.rounds.journal })
    (record o { link = g.L.Link.told c.take_item.new.link; clock = clock; records = g.J.Journal.records c.take_item.new.journal })
    (c.rounds.invariant.at o) c.rounds-test.true c.in-Err.status (c.in-Err.ensures.stops (record o { clock = clock }))

pub returns-in-Err-ask_clock-clause-ran : goal.returns-in-Err-ask_clock-clause-ran
returns-in-Err-ask_clock-clause-ran g c o =
    let clock = g.C.Clock.left c.rounds.clock in
    let took = (rw c.in-Ok-true.field-0-test at c.in-Ok-true.ensures.took) (record o { clock = clock }) in
    let a : Ends = record o { link = g.L.Link.told c.args.link.now; clock = g.C.Clock.left c.args.clock.now; records = g.J.Journal.records c.args.journal.now } in
    let b : Ends = record o { link = g.L.Link.told c.rounds.link; clock = clock; records = g.J.Journal.records c.rounds.journal } in
    let d : Ends = record o { link = g.L.Link.told c.take_item.new.link; clock = clock; records = g.J.Journal.records c.take_item.new.journal } in
    ended-tick g.P.Party.turned c.args.party.now c.take_item.new.party c.in-Ok.start c.rounds.ticker c.rounds.made _ _ c.args.pace a d
    (record o { link = g.L.Link.told c.ask_clock.new.link; clock = g.C.Clock.left c.ask_clock.new.clock; records = g.J.Journal.records c.ask_clock.new.journal })
    (within-of g.P.Party.turned c.args.party.now c.rounds.party c.take_item.new.party c.in-Ok.start c.args.pace.tick_ms c.rounds.ticker c.rounds.made a b d took.0 (c.rounds.invariant.at o) took.1)
    c.rounds-test.true c.in-Err-ask_clock.status (c.in-Err-ask_clock.ensures.stops o)

pub rounds-preserved : goal.rounds-preserved
rounds-preserved g c =
    let clock = g.C.Clock.left c.rounds.clock in
    let room = c.rounds.invariant.room in
    let heard = c.in-Ok-true.ensures.counted room.0 room.2 in
    let ticked = c.in_default-ask_clock.ensures.counted heard.0 heard.2 in
    let before = c.rounds.invariant.steady in
    let half = c.in-Ok-true.ensures.steady in
    let then = c.in_default-ask_clock.ensures.steady in
    record {
      at = λ o.
          let a : Ends = record o { link = g.L.Link.told c.args.link.now; clock = g.C.Clock.left c.args.clock.now; records = g.J.Journal.records c.args.journal.now } in
          let b : Ends = record o { link = g.L.Link.told c.rounds.link; clock = clock; records = g.J.Journal.records c.rounds.journal } in
          let d : Ends = record o { link = g.L.Link.told c.take_item.new.link; clock = clock; records = g.J.Journal.records c.take_item.new.journal } in
          let took = (rw c.in-Ok-true.field-0-test at c.in-Ok-true.ensures.took) (record o { clock = clock }) in
          at-next g.P.Party.turned c.args.party.now c.take_item.new.party c.ask_clock.new.party c.in-Ok.start c.args.pace.tick_ms c.rounds.ticker c.ask_clock.new.ticker c.rounds.made a d
          (record o { link = g.L.Link.told c.ask_clock.new.link; clock = g.C.Clock.left c.ask_clock.new.clock; records = g.J.Journal.records c.ask_clock.new.journal })
          (within-of g.P.Party.turned c.args.party.now c.rounds.party c.take_item.new.party c.in-Ok.start c.args.pace.tick_ms c.rounds.ticker c.rounds.made a b d took.0 (c.rounds.invariant.at o) took.1)
          (c.in_default-ask_clock.ensures.made o);
      tick = ap (λ (t : Ticker). t.tick_ms) (c.in_default-ask_clock.ensures.made silent).ticker ∙ c.rounds.invariant.tick;
      room = (ticked.0, omega (arith, ticked.1, heard.1, room.1), ticked.2);
      recorded = c.in_default-ask_clock.ensures.recorded;
      is_open = c.in_default-ask_clock.ensures.open;
      same = c.in_default-ask_clock.ensures.same ∙ c.in-Ok-true.ensures.same ∙ c.rounds.invariant.same;
      since = g.met.J.Journal.joins c.args.journal.now c.take_item.new.journal c.ask_clock.new.journal c.in-Ok-true.ensures.open
          (g.met.J.Journal.joins c.args.journal.now c.rounds.journal c.take_item.new.journal c.rounds.invariant.is_open c.rounds.invariant.since c.in-Ok-true.ensures.since)
          c.in_default-ask_clock.ensures.since;
      steady = record {
        source = omega arith;
        sink = omega arith;
        link = omega (arith, before.link, half.link, then.link);
        clock = omega (arith, before.clock, then.clock);
        disk = omega (arith, before.disk, half.disk, then.disk);
      };
    }

pub returns-clause-ran : goal.returns-clause-ran
returns-clause-ran g c o =
    ended-turns g.P.Party.turned c.args.party.now c.rounds.party c.in-Ok.start c.rounds.ticker c.rounds.made _ _ c.args.pace
    (record o { link = g.L.Link.told c.args.link.now; clock = g.C.Clock.left c.args.clock.now; records = g.J.Journal.records c.args.journal.now })
    (record o { link = g.L.Link.told c.rounds.link; clock = g.C.Clock.left c.rounds.clock; records = g.J.Journal.records c.rounds.journal })
    (c.rounds.invariant.at o) (omega (arith, c.rounds-test.false, c.rounds.auto.made-end))

-- ---- what happened to the place of the records

pub returns-in_default-clause-since : goal.returns-in_default-clause-since
returns-in_default-clause-since g c = g.met.J.Journal.begins c.args.journal.now

pub returns-in-Ok-false-clause-since : goal.returns-in-Ok-false-clause-since
returns-in-Ok-false-clause-since g c =
    g.met.J.Journal.joins c.args.journal.now c.rounds.journal c.take_item.new.journal c.rounds.invariant.is_open c.rounds.invariant.since c.take_item.ensures.since

pub returns-in-Err-clause-since : goal.returns-in-Err-clause-since
returns-in-Err-clause-since g c =
    g.met.J.Journal.joins c.args.journal.now c.rounds.journal c.take_item.new.journal c.rounds.invariant.is_open c.rounds.invariant.since c.take_item.ensures.since

pub returns-in-Err-ask_clock-clause-since : goal.returns-in-Err-ask_clock-clause-since
returns-in-Err-ask_clock-clause-since g c =
    g.met.J.Journal.joins c.args.journal.now c.take_item.new.journal c.ask_clock.new.journal c.in-Ok-true.ensures.open
    (g.met.J.Journal.joins c.args.journal.now c.rounds.journal c.take_item.new.journal c.rounds.invariant.is_open c.rounds.invariant.since c.in-Ok-true.ensures.since)
    c.in-Err-ask_clock.ensures.since
