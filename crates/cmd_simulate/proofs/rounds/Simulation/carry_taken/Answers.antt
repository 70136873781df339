use Rattle.std.proofs.Common.{◌<◌, ◌≤◌, length, rules}
use Rattle.cmd_status.proofs.Reports.{on_ok}
use Rattle.cmd_simulate.proofs.Telling.{part-of, part-sent, part-some, taken-goes, taken-none, taken-told}
use Rattle.cmd_simulate.proofs.rounds.Simulation.carry_taken.Goals as goal

pub returns-then-is_empty : goal.returns-then-is_empty
returns-then-is_empty c =
    let empty = c.if-is_empty.true in
    let none : length c.args.flight.now ≤ 0 = search rules in
    record { told = λ x tells. taken-none c.args.plan.now x _ c.args.flight.now _ _ tells none c.requires.taken }

pub carry_all-requires-clause-some : goal.carry_all-requires-clause-some
carry_all-requires-clause-some c = taken-goes c.args.plan.now _ c.args.flight.now _ _ _ c.requires.some c.draw-place.ensures.next c.requires.taken

pub carry_all-requires-clause-sent : goal.carry_all-requires-clause-sent
carry_all-requires-clause-sent c = (part-of c.args.plan.now _ c.args.flight.now _ c.draw-place.result _ _ c.requires.some c.split_at.ensures.front c.split_at.ensures.back).1

pub carry_all-requires-2-clause-some : goal.carry_all-requires-2-clause-some
carry_all-requires-2-clause-some c =
    part-some c.args.plan.now c.split_at.result.1.now _ _ _ _ _ _ (taken-goes c.args.plan.now _ c.args.flight.now _ _ _ c.requires.some c.draw-place.ensures.next c.requires.taken)
    (part-of c.args.plan.now _ c.args.flight.now _ c.draw-place.result _ _ c.requires.some c.split_at.ensures.front c.split_at.ensures.back).1 (λ x tells. c.in_ok-carry_all.ensures.told x tells)

pub carry_all-requires-2-clause-sent : goal.carry_all-requires-2-clause-sent
carry_all-requires-2-clause-sent c =
    let parts = part-of c.args.plan.now _ c.args.flight.now _ c.draw-place.result _ _ c.requires.some c.split_at.ensures.front c.split_at.ensures.back in
    part-sent c.args.plan.now c.split_at.result.1.now c.split_at.result.0.now _ _ _ _ _ _ (taken-goes c.args.plan.now _ c.args.flight.now _ _ _ c.requires.some c.draw-place.ensures.next c.requires.taken)
    parts.1 parts.0 (λ x tells. c.in_ok-carry_all.ensures.told x tells)

pub returns : goal.returns
returns c =
    let some : 0 < length c.args.flight.now = search rules in
    record {
      told = on_ok c.carry_all-2.result _ _
          (λ told x tells.
          taken-told c.args.plan.now x _ c.args.flight.now _ c.split_at.result.0.now c.split_at.result.1.now _ _ c.draw-place.result _ _ _ _ _ _ tells c.requires.taken c.draw-place.ensures.next some
          c.draw-place.ensures.is c.split_at.ensures.front c.split_at.ensures.back (λ y telling. c.in_ok-carry_all.ensures.told y telling) told)
          c.carry_all-2.ensures.told;
    }
