use Rattle.std.proofs.Common.{◌≡◌, [], map, refl, subst, sym, rules, arith}
use Rattle.cmd_router.specs.Desks.{ComeBack}
use Rattle.cmd_router.proofs.SeatLists.{back-more}
use Rattle.cmd_router.proofs.seating.take_back.Goals as goal

pub seats-init : goal.seats-init
seats-init g c =
    let same : c.from_vec-left.result.items ≡ c.args.seats.items = search rules in
    record {
      back = λ new back. subst (λ l. ComeBack (g.L.Link.told c.args.link.now) new (map (λ s. g.L.Link.told s.link) l)) same back;
      steady = omega arith;
    }

pub seats-preserved : goal.seats-preserved
seats-preserved g c =
    let at = c.seats in
    record {
      back = back-more (λ s. g.L.Link.told s.link) _ (g.L.Link.told at.link) _ _ at.left.items _ c.in-Some.seat c.in-Some.ensures.items c.rejoin.ensures.rejoined at.invariant.back;
      steady = omega (arith, at.invariant.steady, c.rejoin.ensures.steady);
    }

pub returns-clause-back : goal.returns-clause-back
returns-clause-back g c =
    let at = c.seats in
    let none : at.left.items ≡ [] = search rules in
    at.invariant.back (g.L.Link.told at.link) (subst (λ l. ComeBack (g.L.Link.told at.link) (g.L.Link.told at.link) (map (λ s. g.L.Link.told s.link) l)) (sym none) refl)
