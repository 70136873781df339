use Rattle.cmd_loop.proofs.Steps.{closing-turn}
use Rattle.cmd_loop.proofs.Taking.{end-closes, end-stops, item-stops, item-taken}
use Rattle.cmd_loop.proofs.round.take_item.Goals as goal

pub returns-in-Err-send_all-clause-stops : goal.returns-in-Err-send_all-clause-stops
returns-in-Err-send_all-clause-stops g c o =
    let p = c.args.party.now in
    let q = c.take_in.new.party in
    let got = rw c.in_default.is at c.in-Ok.ensures.event in
    let replies = c.in-Ok.taken.replies in
    end-stops g.P.Party.turned p q (g.L.Link.told c.args.link.now) (g.L.Link.told c.take_in.new.link) (g.L.Link.told c.send_all.new.link) replies
    (record o { records = g.J.Journal.records c.args.journal.now }) got.0 got.1
    (closing-turn g.P.Party.turned g.P.Party.finished p q replies g.met.P.Party.closes c.in-Ok.ensures.replies)
    (rw c.as_slice.ensures at c.in-Err-send_all.ensures.part)

pub returns-in_default-clause-took : goal.returns-in_default-clause-took
returns-in_default-clause-took g c o =
    let p = c.args.party.now in
    let q = c.take_in.new.party in
    let got = rw c.in_default.is at c.in-Ok.ensures.event in
    let replies = c.in-Ok.taken.replies in
    end-closes g.P.Party.turned p q (g.L.Link.told c.args.link.now) (g.L.Link.told c.take_in.new.link) (g.L.Link.told c.send_all.new.link) replies
    (record o { records = g.J.Journal.records c.args.journal.now }) got.0 got.1
    (closing-turn g.P.Party.turned g.P.Party.finished p q replies g.met.P.Party.closes c.in-Ok.ensures.replies)
    (rw c.as_slice.ensures at c.in_default-send_all.ensures.whole)

pub returns-in-Err-hear-clause-stops : goal.returns-in-Err-hear-clause-stops
returns-in-Err-hear-clause-stops g c o =
    let got = rw c.in-Some.is at c.in-Ok.ensures.event in
    item-stops g.P.Party.turned g.P.Party.finished c.args.party.now c.take_in.new.party c.in-Some.event got.0 c.in-Ok.taken.replies
    (g.L.Link.told c.args.link.now) (g.L.Link.told c.take_in.new.link) (g.L.Link.told c.hear.new.link) (g.J.Journal.records c.args.journal.now) (g.J.Journal.records c.hear.new.journal) o
    c.in-Err-hear.status got.1 got.2 c.in-Ok.ensures.replies ((rw c.as_slice-2.ensures at c.in-Err-hear.ensures.stops) o)

pub returns-clause-took : goal.returns-clause-took
returns-clause-took g c o =
    let got = rw c.in-Some.is at c.in-Ok.ensures.event in (
      got.0,
      item-taken g.P.Party.turned g.P.Party.finished c.args.party.now c.take_in.new.party c.hear.new.party c.in-Some.event got.0 c.in-Ok.taken.replies
          (g.L.Link.told c.args.link.now) (g.L.Link.told c.take_in.new.link) (g.L.Link.told c.hear.new.link) (g.J.Journal.records c.args.journal.now) (g.J.Journal.records c.hear.new.journal) o
          got.1 got.2 c.in-Ok.ensures.replies ((rw c.as_slice-2.ensures at c.in_default-hear.ensures.made) o),
    )
