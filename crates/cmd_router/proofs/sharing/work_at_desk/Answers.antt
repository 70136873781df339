use Rattle.std.proofs.Common.{◌≡◌, ◌≤◌, ◌<◌, ℕ, List, ◌++◌, All, drop, length, map, take, sym, subst, ap, ◌∙◌, arith}
use Rattle.std.proofs.lemmas.List.{length-map}
use Rattle.r2_link.specs.Faults.{Rose, calm}
use Rattle.r2_link.proofs.Faults.{then-Rose}
use Rattle.r2_desk.specs.States.{PassState}
use Rattle.cmd_status.specs.Causes.{IsCaused}
use Rattle.cmd_status.specs.declared.status.Status.{Status}
use Rattle.cmd_loop.specs.Loop.{IsServed}
use Rattle.cmd_router.specs.Desks.{AreTwins, ComeBack, WorkAtDesk}
use Rattle.cmd_router.specs.Loops.{WorkersRan}
use Rattle.cmd_router.specs.Routes.{IsWholeRun}
use Rattle.cmd_router.specs.Seats.{IsReady}
use Rattle.cmd_router.specs.Workers.{IsWorkersEnd, end_of}
use Rattle.cmd_router.proofs.Loops.{run-loops}
use Rattle.cmd_router.proofs.Ready.{IsFresh, all-ready, mended}
use Rattle.cmd_router.proofs.Together.{run-caused, run-known, run-served, run-together}
use Rattle.cmd_router.proofs.sharing.work_at_desk.Goals as goal

pub run_all-requires-after_bounds : goal.run_all-requires-after_bounds
run_all-requires-after_bounds g c κs within =
    let seats = c.in-Ok.seats.items in
    let fresh : All IsFresh (map (λ s. s.party.party.pass) seats) = subst (All IsFresh) (sym c.in-Ok.ensures.passes) c.requires.fresh in
    subst (All (λ s. IsReady (s.party.party.pass.made.turns ≤ 0) s.pace)) (sym c.as_mut_slice.ensures.value)
    (all-ready (λ s. s.party.party.pass) (λ s. s.pace) c.args.pace c.requires.tick c.requires.most seats fresh c.in-Ok.ensures.paced)

pub returns-clause-worked : goal.returns-clause-worked
returns-clause-worked g c = λ whole.
    let seats = c.in-Ok.seats in
    let xs = c.as_mut_slice.result.now in
    let ys = c.run_all.new.workers in
    let is : xs ≡ seats.items = c.as_mut_slice.ensures.value in
    let as_many : length xs ≡ length c.args.passes.items = ap length is ∙ sym (length-map seats.items (λ s. s.party.party.pass)) ∙ ap length c.in-Ok.ensures.passes in
    let all = mended seats.len ys seats.items (omega (arith, c.run_all.auto.workers, ap length is)) (omega (arith, c.as_mut_slice.ensures.len, ap length is)) in
    let ended : c.end_of-ended.result ≡ end_of (map (λ s. s.ended) ys) = c.end_of-ended.ensures ∙ ap (λ l. end_of (map (λ s. s.ended) l)) (c.as_slice.ensures.value ∙ all) in
    let run = c.run_all.ensures (omega (arith, c.requires.some, as_many)) in
    let old = g.L.Link.told c.args.link.now in
    let mid = g.L.Link.told c.seat_all.new.link in
    let new = g.L.Link.told c.unseat_all.new.link in
    let left = g.C.Clock.left c.args.clock.now in
    let left' = g.C.Clock.left c.run_all.new.clock in
    let before : map (λ s. s.party.party.pass) xs ≡ c.args.passes.items = ap (map (λ s. s.party.party.pass)) is ∙ c.in-Ok.ensures.passes in
    let after : c.unseat_all.new.passes.items ≡ map (λ s. s.party.party.pass) ys =
    c.unseat_all.ensures.passes ∙ ap (λ l. l ++ map (λ s. s.party.party.pass) (take seats.len (ys ++ drop (length ys) seats.items))) c.requires.empty
    ∙ ap (map (λ s. s.party.party.pass)) all in
    let twins = subst (λ l. AreTwins old mid (map (λ s. g.L.Link.told s.link) l)) (sym is) c.in-Ok.ensures.twins in
    let back = subst (λ l. ComeBack mid new (map (λ s. g.L.Link.told s.link) l)) all c.unseat_all.ensures.back in
    let paced = subst (All (λ s. s.pace ≡ c.args.pace)) (sym is) c.in-Ok.ensures.paced in
    let did = run-together (λ p. p.pass) (λ s. s.party.party) (λ s. g.L.Link.told s.link) (λ s. g.L.Link.faults s.link) (λ s. s.pace) (λ s. s.ended) xs ys
    (g.C.Clock.left c.args.clock.now) (g.C.Clock.left c.run_all.new.clock) (g.C.Clock.faults c.args.clock.now) (g.C.Clock.faults c.run_all.new.clock) run
    c.args.pace c.requires.tick old mid new twins back paced (subst IsWholeRun ended whole) in
    subst (λ (s : Status). WorkAtDesk c.args.pace c.args.passes.items c.unseat_all.new.passes.items old new left left' s) (sym ended)
    (subst (λ (l : List PassState). WorkAtDesk c.args.pace c.args.passes.items l old new left left' (end_of (map (λ s. s.ended) ys))) (sym after)
    (subst (λ (l : List PassState). WorkAtDesk c.args.pace l (map (λ s. s.party.party.pass) ys) old new left left' (end_of (map (λ s. s.ended) ys))) before did))

pub returns-clause-ran : goal.returns-clause-ran
returns-clause-ran g c =
    let seats = c.in-Ok.seats in
    let xs = c.as_mut_slice.result.now in
    let ys = c.run_all.new.workers in
    let is : xs ≡ seats.items = c.as_mut_slice.ensures.value in
    let as_many : length xs ≡ length c.args.passes.items = ap length is ∙ sym (length-map seats.items (λ s. s.party.party.pass)) ∙ ap length c.in-Ok.ensures.passes in
    let all = mended seats.len ys seats.items (omega (arith, c.run_all.auto.workers, ap length is)) (omega (arith, c.as_mut_slice.ensures.len, ap length is)) in
    let ended : c.end_of-ended.result ≡ end_of (map (λ s. s.ended) ys) = c.end_of-ended.ensures ∙ ap (λ l. end_of (map (λ s. s.ended) l)) (c.as_slice.ensures.value ∙ all) in
    let run = c.run_all.ensures (omega (arith, c.requires.some, as_many)) in
    let old = g.L.Link.told c.args.link.now in
    let mid = g.L.Link.told c.seat_all.new.link in
    let new = g.L.Link.told c.unseat_all.new.link in
    let left = g.C.Clock.left c.args.clock.now in
    let left' = g.C.Clock.left c.run_all.new.clock in
    let twins = subst (λ l. AreTwins old mid (map (λ s. g.L.Link.told s.link) l)) (sym is) c.in-Ok.ensures.twins in
    let back = subst (λ l. ComeBack mid new (map (λ s. g.L.Link.told s.link) l)) all c.unseat_all.ensures.back in
    let paced = subst (All (λ s. s.pace ≡ c.args.pace)) (sym is) c.in-Ok.ensures.paced in
    let did = run-loops (λ p. p.pass) (λ s. s.party.party) (λ s. g.L.Link.told s.link) (λ s. g.L.Link.faults s.link) (λ s. s.pace) (λ s. s.ended) xs ys
    left left' (g.C.Clock.faults c.args.clock.now) (g.C.Clock.faults c.run_all.new.clock) run c.args.pace old mid new twins back paced in
    subst (λ (n : ℕ). WorkersRan n c.args.pace old new left left' c.end_of-ended.result) as_many
    (subst (λ (s : Status). WorkersRan (length xs) c.args.pace old new left left' s) (sym ended) did)

pub returns-clause-known : goal.returns-clause-known
returns-clause-known g c =
    let seats = c.in-Ok.seats in
    let xs = c.as_mut_slice.result.now in
    let ys = c.run_all.new.workers in
    let is : xs ≡ seats.items = c.as_mut_slice.ensures.value in
    let as_many : length xs ≡ length c.args.passes.items = ap length is ∙ sym (length-map seats.items (λ s. s.party.party.pass)) ∙ ap length c.in-Ok.ensures.passes in
    let all = mended seats.len ys seats.items (omega (arith, c.run_all.auto.workers, ap length is)) (omega (arith, c.as_mut_slice.ensures.len, ap length is)) in
    let ended : c.end_of-ended.result ≡ end_of (map (λ s. s.ended) ys) = c.end_of-ended.ensures ∙ ap (λ l. end_of (map (λ s. s.ended) l)) (c.as_slice.ensures.value ∙ all) in
    let run = c.run_all.ensures (omega (arith, c.requires.some, as_many)) in
    subst IsWorkersEnd (sym ended) (run-known (λ p. p.pass) (λ s. s.party.party) (λ s. g.L.Link.told s.link) (λ s. g.L.Link.faults s.link) (λ s. s.pace) (λ s. s.ended) xs ys
    (g.C.Clock.left c.args.clock.now) (g.C.Clock.left c.run_all.new.clock) (g.C.Clock.faults c.args.clock.now) (g.C.Clock.faults c.run_all.new.clock) run)

pub returns-clause-served : goal.returns-clause-served
returns-clause-served g c = λ no_link no_clock.
    let seats = c.in-Ok.seats in
    let xs = c.as_mut_slice.result.now in
    let ys = c.run_all.new.workers in
    let is : xs ≡ seats.items = c.as_mut_slice.ensures.value in
    let as_many : length xs ≡ length c.args.passes.items = ap length is ∙ sym (length-map seats.items (λ s. s.party.party.pass)) ∙ ap length c.in-Ok.ensures.passes in
    let all = mended seats.len ys seats.items (omega (arith, c.run_all.auto.workers, ap length is)) (omega (arith, c.as_mut_slice.ensures.len, ap length is)) in
    let ended : c.end_of-ended.result ≡ end_of (map (λ s. s.ended) ys) = c.end_of-ended.ensures ∙ ap (λ l. end_of (map (λ s. s.ended) l)) (c.as_slice.ensures.value ∙ all) in
    let run = c.run_all.ensures (omega (arith, c.requires.some, as_many)) in
    let first = g.L.Link.faults c.args.link.now in
    let mid = g.L.Link.faults c.seat_all.new.link in
    let last = g.L.Link.faults c.unseat_all.new.link in
    let unfailed = subst (All (λ s. g.L.Link.faults s.link ≡ 0)) (sym is) c.in-Ok.ensures.unfailed in
    let rose = subst (All (λ s. 0 < g.L.Link.faults s.link → Rose mid last)) all c.unseat_all.ensures.risen in
    let risen : All (λ s. 0 < g.L.Link.faults s.link → Rose first last) ys = λ k d lt h. then-Rose first mid last c.in-Ok.ensures.steady (rose k d lt h) in
    subst IsServed (sym ended) (run-served (λ p. p.pass) (λ s. s.party.party) (λ s. g.L.Link.told s.link) (λ s. g.L.Link.faults s.link) (λ s. s.pace) (λ s. s.ended) xs ys
    (g.C.Clock.left c.args.clock.now) (g.C.Clock.left c.run_all.new.clock) (g.C.Clock.faults c.args.clock.now) (g.C.Clock.faults c.run_all.new.clock) run
    first last unfailed risen no_link no_clock)

pub returns-clause-caused : goal.returns-clause-caused
returns-clause-caused g c =
    let seats = c.in-Ok.seats in
    let xs = c.as_mut_slice.result.now in
    let ys = c.run_all.new.workers in
    let is : xs ≡ seats.items = c.as_mut_slice.ensures.value in
    let as_many : length xs ≡ length c.args.passes.items = ap length is ∙ sym (length-map seats.items (λ s. s.party.party.pass)) ∙ ap length c.in-Ok.ensures.passes in
    let all = mended seats.len ys seats.items (omega (arith, c.run_all.auto.workers, ap length is)) (omega (arith, c.as_mut_slice.ensures.len, ap length is)) in
    let ended : c.end_of-ended.result ≡ end_of (map (λ s. s.ended) ys) = c.end_of-ended.ensures ∙ ap (λ l. end_of (map (λ s. s.ended) l)) (c.as_slice.ensures.value ∙ all) in
    let run = c.run_all.ensures (omega (arith, c.requires.some, as_many)) in
    let first = g.L.Link.faults c.args.link.now in
    let mid = g.L.Link.faults c.seat_all.new.link in
    let last = g.L.Link.faults c.unseat_all.new.link in
    let unfailed = subst (All (λ s. g.L.Link.faults s.link ≡ 0)) (sym is) c.in-Ok.ensures.unfailed in
    let rose = subst (All (λ s. 0 < g.L.Link.faults s.link → Rose mid last)) all c.unseat_all.ensures.risen in
    let risen : All (λ s. 0 < g.L.Link.faults s.link → Rose first last) ys = λ k d lt h. then-Rose first mid last c.in-Ok.ensures.steady (rose k d lt h) in
    subst (IsCaused (record calm { link = first; clock = g.C.Clock.faults c.args.clock.now }) (record calm { link = last; clock = g.C.Clock.faults c.run_all.new.clock })) (sym ended)
    (run-caused (λ p. p.pass) (λ s. s.party.party) (λ s. g.L.Link.told s.link) (λ s. g.L.Link.faults s.link) (λ s. s.pace) (λ s. s.ended) xs ys
    (g.C.Clock.left c.args.clock.now) (g.C.Clock.left c.run_all.new.clock) (g.C.Clock.faults c.args.clock.now) (g.C.Clock.faults c.run_all.new.clock) run
    first last unfailed risen)
