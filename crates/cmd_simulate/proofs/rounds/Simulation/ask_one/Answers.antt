use Rattle.cmd_status.proofs.Reports.{on_ok}
use Rattle.cmd_simulate.proofs.Telling.{one-left, one-none}
use Rattle.cmd_simulate.proofs.rounds.Simulation.ask_one.Goals as goal

pub returns-then-number-plan : goal.returns-then-number-plan
returns-then-number-plan c =
    record {
      told = on_ok c.ask.result _ _ (λ told x tells. rw (one-left c.args.plan.now c.args.number x c.if-number-plan.true) (told x tells)) c.ask.ensures.told;
    }

pub returns : goal.returns
returns c = record { told = λ x tells. rw (one-none c.args.plan.now c.args.number x c.if-number-plan.false) tells }
