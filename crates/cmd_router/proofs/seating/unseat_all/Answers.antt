use Rattle.std.proofs.Common.{◌≡◌, ◌++◌, [], ◌<◌, All, refl, map, length, subst, sym, ap, ◌∙◌, append-nil, rules, arith}
use Rattle.std.proofs.lemmas.List.Elements.{All-nil}
use Rattle.r2_link.specs.Faults.{Rose}
use Rattle.cmd_router.specs.Desks.{ComeBack}
use Rattle.cmd_router.proofs.SeatLists.{back-more, risen-more, unseat-more}
use Rattle.cmd_router.proofs.seating.unseat_all.Goals as goal

pub seats-init : goal.seats-init
seats-init g c =
    let same : c.from_vec-left.result.items ≡ c.args.seats.items = search rules in
    record {
      room = omega (arith, c.requires.room, ap length same);
      passes = ap (λ l. c.args.passes.now.items ++ map (λ s. s.party.party.pass) l) same;
      back = λ new back. subst (λ l. ComeBack (g.L.Link.told c.args.link.now) new (map (λ s. g.L.Link.told s.link) l)) same back;
      steady = omega arith;
      risen = λ final on all. subst (All (λ s. 0 < g.L.Link.faults s.link → Rose (g.L.Link.faults c.args.link.now) final)) same all;
    }

pub seats-preserved : goal.seats-preserved
seats-preserved g c =
    let at = c.seats in
    let seat = c.in-Some.seat in
    let one = c.in-Some.ensures.items in
    let shorter = ap length one in
    record {
      room = omega (arith, at.invariant.room, shorter, c.push_reserved.ensures.len, c.push_reserved.ensures.capacity);
      passes = unseat-more (λ s. s.party.party.pass) at.passes.items _ _ at.left.items _ seat one c.push_reserved.ensures.items at.invariant.passes;
      back = back-more (λ s. g.L.Link.told s.link) _ (g.L.Link.told at.link) _ _ at.left.items _ seat one c.rejoin.ensures.rejoined at.invariant.back;
      steady = omega (arith, at.invariant.steady, c.rejoin.ensures.steady);
      risen = λ final on all. at.invariant.risen final (omega (arith, on, c.rejoin.ensures.steady))
          (risen-more (λ s. g.L.Link.faults s.link) at.left.items _ seat (g.L.Link.faults at.link) (g.L.Link.faults c.rejoin.new.self) final one c.rejoin.ensures.steady on c.rejoin.ensures.risen all);
    }

pub returns-clause-passes : goal.returns-clause-passes
returns-clause-passes g c =
    let at = c.seats in
    let none : at.left.items ≡ [] = search rules in
    sym (append-nil at.passes.items) ∙ ap (λ l. at.passes.items ++ map (λ s. s.party.party.pass) l) (sym none) ∙ at.invariant.passes

pub returns-clause-back : goal.returns-clause-back
returns-clause-back g c =
    let at = c.seats in
    let none : at.left.items ≡ [] = search rules in
    at.invariant.back (g.L.Link.told at.link) (subst (λ l. ComeBack (g.L.Link.told at.link) (g.L.Link.told at.link) (map (λ s. g.L.Link.told s.link) l)) (sym none) refl)

pub returns-clause-risen : goal.returns-clause-risen
returns-clause-risen g c =
    let at = c.seats in
    let none : at.left.items ≡ [] = search rules in
    at.invariant.risen (g.L.Link.faults at.link) (omega arith)
    (subst (All (λ s. 0 < g.L.Link.faults s.link → Rose (g.L.Link.faults at.link) (g.L.Link.faults at.link))) (sym none) (All-nil (λ s. 0 < g.L.Link.faults s.link → Rose (g.L.Link.faults at.link) (g.L.Link.faults at.link))))
