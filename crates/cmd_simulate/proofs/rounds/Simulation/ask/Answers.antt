use Rattle.std.proofs.Common.{ap, ◌∙◌}
use Rattle.cmd_status.proofs.Reports.{on_ok}
use Rattle.cmd_simulate.specs.Questions.{command_of}
use Rattle.cmd_simulate.proofs.Telling.{at-draws, possible-asks, tells-asks}
use Rattle.cmd_simulate.proofs.rounds.Simulation.ask.Goals as goal

pub step-requires : goal.step-requires
step-requires c =
    possible-asks c.args.plan.now c.args.number _ _ _ c.command_of-command.result _ _ (at-draws c.args.plan.now c.args.number _ _ _ _ c.requires.at c.draw.ensures.next) c.requires.few c.kind_of.ensures c.in_ok-body.ensures

pub returns : goal.returns
returns c =
    record {
      told = on_ok c.step.result _ _
          (λ told x tells. tells-asks c.args.plan.now c.args.number x _ _ _ _ _ _ _ c.command_of-command.result _ _ tells c.draw.ensures.next
          (c.command_of-command.ensures ∙ ap command_of c.draw.ensures.is) c.kind_of.ensures c.in_ok-body.ensures told)
          c.step.ensures.told;
    }
