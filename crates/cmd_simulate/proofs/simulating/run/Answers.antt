use Rattle.std.proofs.Common.{◌≡◌, ℕ, ◌+◌, List, Option, sym, ap, subst, ◌∙◌, arith}
use Rattle.rand_pcg.specs.Lcg.{Lcg}
use Rattle.hc_world.specs.Runs.{run_of}
use Rattle.hc_world.specs.Seen.{Seen, counts_in, counts_of, seen}
use Rattle.cmd_simulate.specs.declared.plan.Plan.{Plan}
use Rattle.cmd_simulate.specs.Courses.{Tells}
use Rattle.cmd_simulate.specs.Generator.{Course, after_rounds, generated, group_of, more_rounds}
use Rattle.cmd_simulate.specs.Simulations.{counted}
use Rattle.cmd_simulate.proofs.RunsOn.{goes-rounds, rounds-more}
use Rattle.cmd_simulate.proofs.simulating.run.Goals as goal

pub rounds-init : goal.rounds-init
unfolding after_rounds
rounds-init c = c.in_ok-simulation.ensures

pub round-requires-clause-at : goal.round-requires-clause-at
round-requires-clause-at c =
    record {
      course = after_rounds c.args.plan.now c.rounds.number;
      is = goes-rounds c.args.plan.now c.rounds.number c.requires;
      tells = c.rounds.invariant;
    }

pub rounds-preserved : goal.rounds-preserved
rounds-preserved c =
    subst (λ (x : Course). Tells c.args.plan.now x c.round.new.self.world c.round.new.self.flight.items c.round.new.self.lots) (sym (rounds-more c.args.plan.now c.rounds.number))
    (c.in_ok-round.ensures.told (after_rounds c.args.plan.now c.rounds.number) c.rounds.invariant)

-- after the last round all that is generated has happened
ended : (plan : Plan) (number : ℕ) (world : Option Seen) (flight : List ℕ) (lots : Lcg) → number ≡ plan.requests + more_rounds → Tells plan (after_rounds plan number) world flight lots
    → counts_in world ≡ counted plan
unfolding generated
ended plan number world flight lots end tells =
    ap counts_in (tells.shows).seen
    ∙ ap (λ (n : ℕ). counts_of (seen (group_of plan) (run_of (group_of plan) (after_rounds plan n).events))) end

pub returns : goal.returns
returns c =
    let past = c.rounds-test.false in
    let high = c.rounds.auto.number-end in
    c.counts.ensures ∙ ended c.args.plan.now c.rounds.number c.rounds.simulation.world c.rounds.simulation.flight.items c.rounds.simulation.lots (omega (arith, past, high)) c.rounds.invariant
