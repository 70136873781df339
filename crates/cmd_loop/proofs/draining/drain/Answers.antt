use Rattle.std.proofs.Common.{suc, arith}
use Rattle.cmd_loop.proofs.Steps.{Closes-more, closing-turn, cuts-closing}
use Rattle.cmd_loop.proofs.draining.drain.Goals as goal

pub returns-in-Err-clause-drained : goal.returns-in-Err-clause-drained
returns-in-Err-clause-drained g c =
    cuts-closing g.P.Party.turned c.args.party.now c.closings.party c.finish.new.self
    (g.L.Link.told c.args.link.now) (g.L.Link.told c.closings.link) (g.L.Link.told c.send_all.new.link) c.closings.invariant.closed.0 c.in-Ok.replies c.closings.invariant.closed.1
    (closing-turn g.P.Party.turned g.P.Party.finished c.closings.party c.finish.new.self c.in-Ok.replies g.met.P.Party.closes c.in-Ok.ensures.replies)
    (rw c.as_slice.ensures at c.in-Err.ensures.part)

pub closings-preserved : goal.closings-preserved
closings-preserved g c =
    let room = c.closings.invariant.room in
    let before = c.closings.invariant.steady in
    let then = c.in_default-send_all.ensures.steady in
    record {
      closed = (
        suc c.closings.invariant.closed.0,
        Closes-more g.P.Party.turned c.args.party.now c.closings.party c.finish.new.self
            (g.L.Link.told c.args.link.now) (g.L.Link.told c.closings.link) (g.L.Link.told c.send_all.new.link) c.closings.invariant.closed.0 c.in-Ok.replies c.closings.invariant.closed.1
            (closing-turn g.P.Party.turned g.P.Party.finished c.closings.party c.finish.new.self c.in-Ok.replies g.met.P.Party.closes c.in-Ok.ensures.replies)
            (rw c.as_slice.ensures at c.in_default-send_all.ensures.whole),
      );
      room = (room.0, room.1, c.in-Ok.ensures.counted room.0 room.2);
      steady = record { source = omega arith; sink = omega arith; link = omega (arith, before.link, then); clock = omega arith; disk = omega arith };
    }
