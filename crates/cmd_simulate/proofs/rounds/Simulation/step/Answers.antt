use Rattle.cmd_status.proofs.Reports.{on_ok}
use Rattle.cmd_simulate.specs.Generator.{group_of}
use Rattle.cmd_simulate.proofs.Telling.{tells-stepped}
use Rattle.cmd_simulate.proofs.rounds.Simulation.step.Goals as goal

pub returns : goal.returns
returns c =
    record {
      told = on_ok c.enter.result _ _
          (λ entered plan x tells. tells-stepped plan x c.args.event _ _ _ _ _ _ _ tells (c.in_ok-step.ensures.run (group_of plan) x.events tells.shows) c.packets-before.ensures c.packets.ensures entered)
          c.enter.ensures;
    }
