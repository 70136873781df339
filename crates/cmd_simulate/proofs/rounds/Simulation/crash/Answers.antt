use Rattle.std.proofs.Common.{arith, ap}
use Rattle.cmd_status.proofs.Reports.{on_ok}
use Rattle.hc_world.specs.declared.event.WorldEvent.TheVariants.{Crash}
use Rattle.cmd_simulate.specs.Drawn.{drawn}
use Rattle.cmd_simulate.specs.Generator.{draws, group_of, happens}
use Rattle.cmd_simulate.proofs.Telling.{crash-none, crash-some, possible-again, some-draws, tells-draws}
use Rattle.cmd_simulate.proofs.rounds.Simulation.crash.Goals as goal

pub step-requires-then-draw-from : goal.step-requires-then-draw-from
step-requires-then-draw-from c =
    possible-again c.args.plan.now _ _ _ _ _ _ c.args.member (some-draws c.args.plan.now _ _ _ _ c.requires.some c.draw.ensures.next) c.requires.member (λ p y tells. c.in_ok-step.ensures.told p y tells)

pub returns-then-draw-from : goal.returns-then-draw-from
returns-then-draw-from c =
    let is = c.draw.ensures.is in
    let less = c.if-draw-from.true in
    let from = c.from.ensures in
    record {
      told = on_ok c.step-then-draw-from.result _ _
          (λ told x tells.
          (let same = ap (drawn 1000) tells.lots_are in
          rw (crash-some c.args.plan.now c.args.member x (omega (arith, is, less, from, same)))
          (told c.args.plan.now (happens (group_of c.args.plan.now) (Crash c.args.member) (draws x))
          (c.in_ok-step.ensures.told c.args.plan.now (draws x) (tells-draws c.args.plan.now x _ _ _ _ tells c.draw.ensures.next)))))
          c.step-then-draw-from.ensures.told;
    }

pub returns : goal.returns
returns c =
    let is = c.draw.ensures.is in
    let most = c.if-draw-from.false in
    let from = c.from.ensures in
    record {
      told = λ x tells.
          (let same = ap (drawn 1000) tells.lots_are in
          rw (crash-none c.args.plan.now c.args.member x (omega (arith, is, most, from, same))) (tells-draws c.args.plan.now x _ _ _ _ tells c.draw.ensures.next));
    }
