use Rattle.std.proofs.Common.{◌≡◌, ℕ, arith, subst}
use Rattle.std.specs.Prelude.{fold}
use Rattle.std.specs.List.{range_with_len}
use Rattle.cmd_simulate.specs.Courses.{Tells}
use Rattle.cmd_simulate.specs.Generator.{each_may_crash, may_crash}
use Rattle.cmd_simulate.proofs.Telling.{each-more, crash-goes}
use Rattle.cmd_simulate.proofs.rounds.Simulation.crash_some.Goals as goal

pub members-preserved : goal.members-preserved
members-preserved c =
    let plan = c.args.plan.now in
    let v = c.members.member in
    let inv = c.members.invariant in
    let member = c.members-test.true in
    record {
      some = crash-goes plan v _ _ _ _ _ _ member inv.some (λ y tells. c.in_ok-crash.ensures.told y tells);
      told = λ x tells. rw (each-more _ x v) (c.in_ok-crash.ensures.told (fold _ x (range_with_len 0 v)) (inv.told x tells));
    }

pub returns : goal.returns
unfolding each_may_crash
returns c =
    let past = c.members-test.false in
    let end = c.members.auto.member-end in
    let same : c.members.member ≡ c.args.plan.now.members = omega (arith, past, end) in
    record {
      told = λ x tells.
          subst (λ (n : ℕ). Tells c.args.plan.now (fold (may_crash c.args.plan.now) x (range_with_len 0 n)) c.members.self.world c.members.self.flight.items c.members.self.lots) same
          (c.members.invariant.told x tells);
    }
