use Rattle.std.proofs.Common.{arith, ap}
use Rattle.cmd_status.proofs.Reports.{on_ok}
use Rattle.cmd_simulate.specs.Drawn.{drawn}
use Rattle.cmd_simulate.specs.Generator.{comes, draws, group_of}
use Rattle.cmd_simulate.proofs.Telling.{carries-came, carries-lost, some-draws, tells-draws}
use Rattle.cmd_simulate.proofs.rounds.Simulation.carry.Goals as goal

pub returns-then-draw-from : goal.returns-then-draw-from
returns-then-draw-from c =
    let is = c.draw.ensures.is in
    let less = c.if-draw-from.true in
    let from = c.from.ensures in
    record {
      told = λ x tells.
          (let same = ap (drawn 100) tells.lots_are in
          rw (carries-lost c.args.plan.now c.args.packet x (omega (arith, is, less, from, same))) (tells-draws c.args.plan.now x _ _ _ _ tells c.draw.ensures.next));
    }

pub come-requires-clause-some : goal.come-requires-clause-some
come-requires-clause-some c = some-draws c.args.plan.now _ _ _ _ c.requires.some c.draw.ensures.next

pub returns : goal.returns
returns c =
    let is = c.draw.ensures.is in
    let most = c.if-draw-from.false in
    let from = c.from.ensures in
    record {
      told = on_ok c.repeat.result _ _
          (λ told x tells.
          (let same = ap (drawn 100) tells.lots_are in
          rw (carries-came c.args.plan.now c.args.packet x (omega (arith, is, most, from, same)))
          (told (comes (group_of c.args.plan.now) c.args.packet (draws x)) (c.in_ok-come.ensures.told (draws x) (tells-draws c.args.plan.now x _ _ _ _ tells c.draw.ensures.next)))))
          c.repeat.ensures.told;
    }
