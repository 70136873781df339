use Rattle.std.proofs.Common.{◌<◌, ◌≤◌, arith}
use Rattle.cmd_simulate.specs.Drawn.{drawn}
use Rattle.cmd_simulate.proofs.Telling.{tells-again, tells-once}
use Rattle.cmd_simulate.proofs.rounds.Simulation.repeat.Goals as goal

pub returns-in_ok-push : goal.returns-in_ok-push
returns-in_ok-push c =
    let is = c.draw.ensures.is in
    let less = c.if-draw-from.true in
    let from = c.from.ensures in
    let below : drawn 100 c.args.self.now.lots < c.args.plan.now.repeat = omega (arith, is, less, from) in
    record { told = λ x tells. tells-again c.args.plan.now c.args.packet x _ _ _ _ _ tells c.draw.ensures.next below c.in_ok-push.ensures.items }

pub returns-else-draw-from : goal.returns-else-draw-from
returns-else-draw-from c =
    let is = c.draw.ensures.is in
    let most = c.if-draw-from.false in
    let from = c.from.ensures in
    let above : c.args.plan.now.repeat ≤ drawn 100 c.args.self.now.lots = omega (arith, is, most, from) in
    record { told = λ x tells. tells-once c.args.plan.now c.args.packet x _ _ _ _ tells c.draw.ensures.next above }
