use Rattle.cmd_status.proofs.Reports.{on_ok}
use Rattle.cmd_simulate.specs.Generator.{asks_one, carries_flight, each_may_crash, round}
use Rattle.cmd_simulate.proofs.Telling.{crashes-go, flight-goes, one-some}
use Rattle.cmd_simulate.proofs.rounds.Simulation.round.Goals as goal

pub carry_flight-requires : goal.carry_flight-requires
carry_flight-requires c =
    record { some = one-some c.args.plan.now c.args.number _ _ _ _ _ _ c.requires.plan c.requires.at (λ x tells. c.in_ok-ask_one.ensures.told x tells) }

pub crash_some-requires : goal.crash_some-requires
crash_some-requires c =
    record {
      some = flight-goes c.args.plan.now _ _ _ _ _ _
          (one-some c.args.plan.now c.args.number _ _ _ _ _ _ c.requires.plan c.requires.at (λ x tells. c.in_ok-ask_one.ensures.told x tells))
          (λ x tells. c.in_ok-carry_flight.ensures.told x tells);
    }

pub tick_all-requires : goal.tick_all-requires
tick_all-requires c =
    record {
      some = crashes-go c.args.plan.now _ _ _ _ _ _
          (flight-goes c.args.plan.now _ _ _ _ _ _
          (one-some c.args.plan.now c.args.number _ _ _ _ _ _ c.requires.plan c.requires.at (λ x tells. c.in_ok-ask_one.ensures.told x tells))
          (λ x tells. c.in_ok-carry_flight.ensures.told x tells))
          (λ x tells. c.in_ok-crash_some.ensures.told x tells);
    }

pub returns : goal.returns
unfolding round
returns c =
    let plan = c.args.plan.now in
    let number = c.args.number in
    record {
      told = on_ok c.tick_all.result _ _
          (λ told x tells.
          told (each_may_crash plan (carries_flight plan (asks_one plan number x)))
          (c.in_ok-crash_some.ensures.told (carries_flight plan (asks_one plan number x))
          (c.in_ok-carry_flight.ensures.told (asks_one plan number x) (c.in_ok-ask_one.ensures.told x tells))))
          c.tick_all.ensures.told;
    }
