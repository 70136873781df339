use Rattle.std.proofs.Common.{◌≡◌, ◌++◌, ◌∷◌, [], refl, map, subst, append-nil, rules, arith}
use Rattle.cmd_router.specs.Desks.{AreTwins, ComeBack}
use Rattle.r2_link.proofs.Links.{LinkPasses-nothing}
use Rattle.cmd_router.proofs.SeatLists.{all-more, seat-more, twins-more}
use Rattle.cmd_router.proofs.Unrun.{seats-left}
use Rattle.cmd_router.proofs.seating.seat_all.Goals as goal

pub passes-preserved : goal.passes-preserved
passes-preserved g c =
    let at = c.passes in
    let seats = at.seats.items in
    let seat = c.in-Ok.seat in
    let one : c.push_reserved.new.self.items ≡ seats ++ seat ∷ [] = search rules in
    record {
      passes = seat-more (λ s. s.party.party.pass) seats _ seat c.in-Some.pass at.waiting.items _ _ one (search rules) c.in-Some.ensures.items at.invariant.passes;
      paced = all-more (λ s. s.pace ≡ c.args.pace) seats _ seat one at.invariant.paced c.in-Ok.ensures.pace;
      twins = twins-more (λ s. g.L.Link.told s.link) _ (g.L.Link.told at.link) _ seats _ seat one c.in-Ok.ensures.split at.invariant.twins;
      unfailed = all-more (λ s. g.L.Link.faults s.link ≡ 0) seats _ seat one at.invariant.unfailed c.in-Ok.ensures.unfailed;
      steady = omega (arith, at.invariant.steady, c.take_seat.ensures.steady);
    }

pub returns-clause-twins : goal.returns-clause-twins
returns-clause-twins g c =
    let at = c.passes in
    subst (AreTwins (g.L.Link.told c.args.link.now) (g.L.Link.told at.link)) (append-nil (map (λ s. g.L.Link.told s.link) at.seats.items))
    (at.invariant.twins (g.L.Link.told at.link) [] refl)

pub returns-in-Err-clause-none : goal.returns-in-Err-clause-none
returns-in-Err-clause-none g c =
    let at = c.passes in
    let seats = at.seats.items in
    let same : c.reserve.new.self.items ≡ seats = search rules in
    let mid = g.L.Link.told at.link in
    let last = g.L.Link.told c.take_back.new.link in
    seats-left (λ s. s.party.party.pass) (λ s. g.L.Link.told s.link) seats at.waiting.items _ _ c.in-Some.pass c.in-Some.ensures.items at.invariant.passes
    (g.L.Link.told c.args.link.now) mid mid last at.invariant.twins (LinkPasses-nothing mid)
    (subst (λ l. ComeBack mid last (map (λ s. g.L.Link.told s.link) l)) same c.take_back.ensures.back)

pub returns-in-Err-take_seat-clause-none : goal.returns-in-Err-take_seat-clause-none
returns-in-Err-take_seat-clause-none g c =
    let at = c.passes in
    let seats = at.seats.items in
    let same : c.reserve.new.self.items ≡ seats = search rules in
    let refused = g.L.Link.told c.take_seat.new.link in
    let last = g.L.Link.told c.take_back-in-Err-take_seat.new.link in
    seats-left (λ s. s.party.party.pass) (λ s. g.L.Link.told s.link) seats at.waiting.items _ _ c.in-Some.pass c.in-Some.ensures.items at.invariant.passes
    (g.L.Link.told c.args.link.now) (g.L.Link.told at.link) refused last at.invariant.twins c.in-Err-take_seat.ensures.refused
    (subst (λ l. ComeBack refused last (map (λ s. g.L.Link.told s.link) l)) same c.take_back-in-Err-take_seat.ensures.back)
