use Rattle.std.proofs.Common.{arith}
use Rattle.cmd_simulate.proofs.RunsOn.{range-longer}
use Rattle.cmd_simulate.proofs.rounds.enter.Goals as goal

pub sent-preserved : goal.sent-preserved
sent-preserved c =
    let inv = c.sent.invariant in
    let begun = inv.begun in
    let less = c.sent-test.true in
    record {
      begun = omega (arith, begun);
      within = omega (arith, begun, less);
      entered = range-longer c.args.flight.now.items c.sent.flight.items c.push.new.self.items c.args.from c.sent.number begun inv.entered c.in_ok-push.ensures.items;
    }
