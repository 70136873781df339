use Rattle.std.proofs.Common.{sym, ◌∙◌}
use Rattle.cmd_status.proofs.Reports.{on_ok}
use Rattle.cmd_simulate.proofs.Telling.{comes-inside, comes-outside, possible-comes}
use Rattle.cmd_simulate.proofs.rounds.Simulation.come.Goals as goal

pub step-requires : goal.step-requires
step-requires c = possible-comes c.args.plan.now _ _ _ c.args.packet c.requires.some (sym c.is_for_group.ensures ∙ c.if-is_for_group.true)

pub returns-then-is_for_group : goal.returns-then-is_for_group
returns-then-is_for_group c =
    record {
      told = on_ok c.step.result _ _
          (λ told x tells. rw (comes-inside c.args.plan.now x _ _ _ c.args.packet tells (sym c.is_for_group.ensures ∙ c.if-is_for_group.true)) (told c.args.plan.now x tells))
          c.step.ensures.told;
    }

pub returns : goal.returns
returns c = record { told = λ x tells. rw (comes-outside c.args.plan.now x _ _ _ c.args.packet tells (sym c.is_for_group.ensures ∙ c.if-is_for_group.false)) tells }
