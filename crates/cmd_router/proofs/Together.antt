-- What several workers did together, each of which ran on its twin.
use Rattle.std.proofs.Common.{◌≡◌, ◌≤◌, ◌<◌, ℕ, suc, List, [], ◌∷◌, Option, Some, All, drop, length, map, refl, sym, ap, ap₂, ◌∙◌, subst, arith}
use Rattle.std.proofs.lemmas.List.Elements.{All-cons, All-head, All-nil, All-tail}
use Rattle.std.proofs.lemmas.List.{length-map}
use Rattle.r2_base.specs.declared.datagram.Datagram.{Datagram}
use Rattle.r2_base.specs.declared.event.Event.{Event}
use Rattle.r2_link.specs.declared.lane.Item.{Item}
use Rattle.r2_link.specs.Faults.{Rose, calm}
use Rattle.r2_link.specs.Links.{LinkTold}
use Rattle.r2_link.specs.Told.{first_list}
use Rattle.r2_link.proofs.Told.{IsKept-trans}
use Rattle.r2_desk.specs.States.{PassState}
use Rattle.cmd_status.specs.Causes.{IsCaused}
use Rattle.cmd_status.specs.declared.status.Status.{Status}
use Rattle.cmd_status.specs.declared.status.Status.TheVariants.{Done, TurnsSpent}
use Rattle.cmd_loop.specs.declared.pace.Pace.{Pace}
use Rattle.cmd_loop.specs.Events.{event_of}
use Rattle.cmd_loop.specs.Loop.{IsServed}
use Rattle.cmd_loop.proofs.Passing.{silent}
use Rattle.cmd_router.proofs.Still.{events-still}
use Rattle.cmd_loop.proofs.Weaker.{serves-calm}
use Rattle.cmd_router.specs.Counted.{CountsTurns}
use Rattle.cmd_router.specs.Desks.{AllCount, AreTwins, ComeBack, WorkAtDesk}
use Rattle.cmd_router.specs.Routes.{IsWholeRun}
use Rattle.cmd_router.specs.Seats.{RanSeat, RunAll, RunUntimed}
use Rattle.cmd_router.specs.Workers.{IsWorkersEnd, end_of}
use Rattle.cmd_router.specs.Works.{EndsWell, TakeLanes, Work, all_sent}
use Rattle.cmd_router.proofs.Statuses.{all-whole, ends-as, ends-known}
use Rattle.cmd_router.proofs.Threads.{HaveLanes, HaveSent, back-lanes, back-left, back-me, back-sent, gains-some, kept-some, lane-taken, to-gains, to-lanes, twins-lanes, twins-left, twins-me, twins-unsent}
use Rattle.cmd_router.proofs.Worked.{Worked, worked}

-- a clock that stands still
abbrev still : Option (List ℕ)
still = Some (0 ∷ [])

module _ {X P : Type 0} (pass : P → PassState) (party : X → P) (told : X → LinkTold) (fails : X → ℕ) (paced : X → Pace) (ended : X → Status) where
  abbrev Counts : P → List Event → List Datagram → P → Type 0
  Counts a es sent b = CountsTurns (pass a) es sent (pass b)

  abbrev pub Ran : X → Option (List ℕ) → ℕ → X → Option (List ℕ) → ℕ → Type 0
  Ran x left clock y left' clock' = RanSeat Counts (paced x) (party x) (party y) (told x) (told y) left left' (fails x) (fails y) clock clock' (ended y)

  abbrev pub of : X → PassState
  of x = pass (party x)

  -- one worker
  one-worked : (pace : Pace) (x y : X) (left left' : Option (List ℕ)) (clock clock' : ℕ) → paced x ≡ pace → Ran x left clock y left' clock' → IsWholeRun (ended y)
      → (w : Work) × (w.ended ≡ ended y) × Worked pace (of x) (of y) (told x) (told y) left left' w
  one-worked pace x y left left' clock clock' same ran whole =
      let did = worked (paced x) (of x) (of y) (told x) (told y) left left' (λ (es : List Event) (sent : List Datagram). (last : P) × Counts (party x) es sent last) (ended y) (ran.ran silent) whole in
      (did.0, did.1, subst (λ (q : Pace). Worked q (of x) (of y) (told x) (told y) left left' did.0) same did.2)

  -- the workers that have no clock
  abbrev AllWorked : Pace → List X → List X → List Work → Type 0
  AllWorked pace [] [] [] = Unit {0}
  AllWorked pace (x ∷ xs) (y ∷ ys) (w ∷ ws) = Worked pace (of x) (of y) (told x) (told y) still still w × AllWorked pace xs ys ws
  AllWorked pace _ _ _ = ⊥

  abbrev ended_in : Work → Status
  ended_in w = w.ended

  pub tail-runs : (x y : X) (xs ys : List X) → RunUntimed Ran (x ∷ xs) (y ∷ ys) → RunUntimed Ran xs ys
  tail-runs x y xs ys run = record { each = λ i d lt. run.each (suc i) d (omega (arith, lt)); as_many = omega (arith, run.as_many) }

  all-worked : (pace : Pace) (xs ys : List X) → RunUntimed Ran xs ys → All (λ (x : X). paced x ≡ pace) xs → All IsWholeRun (map ended ys)
      → (ws : List Work) × (map ended_in ws ≡ map ended ys) × AllWorked pace xs ys ws
  all-worked pace [] [] run same whole = ([], refl, tt)
  all-worked pace [] (y ∷ ys) run same whole = absurd (omega (arith, run.as_many))
  all-worked pace (x ∷ xs) [] run same whole = absurd (omega (arith, run.as_many))
  all-worked pace (x ∷ xs) (y ∷ ys) run same whole =
      let ran : Ran x still 0 y still 0 = run.each 0 x (omega arith) in
      let one = one-worked pace x y still still 0 0 (All-head (λ (u : X). paced u ≡ pace) x xs same) ran (All-head IsWholeRun (ended y) (map ended ys) whole) in
      let rest = all-worked pace xs ys (tail-runs x y xs ys run) (All-tail (λ (u : X). paced u ≡ pace) x xs same) (All-tail IsWholeRun (ended y) (map ended ys) whole) in
      (one.0 ∷ rest.0, ap₂ (λ (s : Status) (l : List Status). s ∷ l) one.1 rest.1, (one.2, rest.2))

  all-long : (pace : Pace) (xs ys : List X) (ws : List Work) → AllWorked pace xs ys ws → length ws ≡ length xs
  all-long pace [] [] [] all = refl
  all-long pace [] [] (w ∷ ws) all = absurd all
  all-long pace [] (y ∷ ys) ws all = absurd all
  all-long pace (x ∷ xs) [] ws all = absurd all
  all-long pace (x ∷ xs) (y ∷ ys) [] all = absurd all
  all-long pace (x ∷ xs) (y ∷ ys) (w ∷ ws) all = ap suc (all-long pace xs ys ws all.1)

  all-counts : (pace : Pace) (xs ys : List X) (ws : List Work) → AllWorked pace xs ys ws → AllCount (map of xs) ws (map of ys)
  all-counts pace [] [] [] all = tt
  all-counts pace [] [] (w ∷ ws) all = absurd all
  all-counts pace [] (y ∷ ys) ws all = absurd all
  all-counts pace (x ∷ xs) [] ws all = absurd all
  all-counts pace (x ∷ xs) (y ∷ ys) [] all = absurd all
  all-counts pace (x ∷ xs) (y ∷ ys) (w ∷ ws) all = (all.0.counts, all-counts pace xs ys ws all.1)

  abbrev IsWell : Pace → Work → Type 0
  IsWell pace w = EndsWell pace.turns w.items w.ended

  all-well : (pace : Pace) (xs ys : List X) (ws : List Work) → AllWorked pace xs ys ws → All (IsWell pace) ws
  all-well pace [] [] [] all = All-nil (IsWell pace)
  all-well pace [] [] (w ∷ ws) all = absurd all
  all-well pace [] (y ∷ ys) ws all = absurd all
  all-well pace (x ∷ xs) [] ws all = absurd all
  all-well pace (x ∷ xs) (y ∷ ys) [] all = absurd all
  all-well pace (x ∷ xs) (y ∷ ys) (w ∷ ws) all = All-cons (IsWell pace) w ws all.0.well (all-well pace xs ys ws all.1)

  abbrev IsUntimed : Work → Type 0
  IsUntimed w = w.events ≡ map event_of w.items

  all-untimed : (pace : Pace) → 1 ≤ pace.tick_ms → (xs ys : List X) (ws : List Work) → AllWorked pace xs ys ws → All IsUntimed ws
  all-untimed pace some [] [] [] all = All-nil IsUntimed
  all-untimed pace some [] [] (w ∷ ws) all = absurd all
  all-untimed pace some [] (y ∷ ys) ws all = absurd all
  all-untimed pace some (x ∷ xs) [] ws all = absurd all
  all-untimed pace some (x ∷ xs) (y ∷ ys) [] all = absurd all
  all-untimed pace some (x ∷ xs) (y ∷ ys) (w ∷ ws) all =
      All-cons IsUntimed w ws (all.0.timed ∙ events-still pace.tick_ms some w.items all.0.moments all.0.tells all.0.asked) (all-untimed pace some xs ys ws all.1)

  abbrev IsUnsent : LinkTold → Type 0
  IsUnsent t = t.sent ≡ Some []

  all-sends : (pace : Pace) (xs ys : List X) (ws : List Work) → AllWorked pace xs ys ws → All IsUnsent (map told xs) → HaveSent (map told ys) ws
  all-sends pace [] [] [] all none = tt
  all-sends pace [] [] (w ∷ ws) all none = absurd all
  all-sends pace [] (y ∷ ys) ws all none = absurd all
  all-sends pace (x ∷ xs) [] ws all none = absurd all
  all-sends pace (x ∷ xs) (y ∷ ys) [] all none = absurd all
  all-sends pace (x ∷ xs) (y ∷ ys) (w ∷ ws) all none = (
    gains-some (told x).sent (told y).sent [] w.sends all.0.passed.gave (All-head IsUnsent (told x) (map told xs) none),
    all-sends pace xs ys ws all.1 (All-tail IsUnsent (told x) (map told xs) none),
  )

  all-lanes : (pace : Pace) (xs ys : List X) (ws : List Work) (lanes : List (List Item)) → AllWorked pace xs ys ws → HaveLanes lanes (map told xs) → TakeLanes lanes ws
  all-lanes pace [] [] [] lanes all have = tt
  all-lanes pace [] [] (w ∷ ws) lanes all have = absurd all
  all-lanes pace [] (y ∷ ys) ws lanes all have = absurd all
  all-lanes pace (x ∷ xs) [] ws lanes all have = absurd all
  all-lanes pace (x ∷ xs) (y ∷ ys) [] lanes all have = absurd all
  all-lanes pace (x ∷ xs) (y ∷ ys) (w ∷ ws) lanes all have =
      (lane-taken (told x).left (told y).left (first_list lanes) w all.0.passed.took all.0.dry have.0, all-lanes pace xs ys ws (drop 1 lanes) all.1 have.1)

  -- all of them, the first by its own clock
  together : (pace : Pace) → 1 ≤ pace.tick_ms → (x y : X) (xs ys : List X) (left left' : Option (List ℕ)) (clock clock' : ℕ) (old mid new : LinkTold)
      → AreTwins old mid (map told (x ∷ xs)) → ComeBack mid new (map told (y ∷ ys)) → Ran x left clock y left' clock' → RunUntimed Ran xs ys
      → All (λ (u : X). paced u ≡ pace) (x ∷ xs) → IsWholeRun (end_of (map ended (y ∷ ys)))
      → WorkAtDesk pace (map of (x ∷ xs)) (map of (y ∷ ys)) old new left left' (end_of (map ended (y ∷ ys)))
  together pace some x y xs ys left left' clock clock' old mid new twins back ran run same whole =
      let each : All IsWholeRun (map ended (y ∷ ys)) = all-whole (map ended (y ∷ ys)) whole in
      let one = one-worked pace x y left left' clock clock' (All-head (λ (u : X). paced u ≡ pace) x xs same) ran (All-head IsWholeRun (ended y) (map ended ys) each) in
      let rest = all-worked pace xs ys run (All-tail (λ (u : X). paced u ≡ pace) x xs same) (All-tail IsWholeRun (ended y) (map ended ys) each) in
      let w : Work = one.0 in
      let ws : List Work = rest.0 in
      let did : Worked pace (of x) (of y) (told x) (told y) left left' w = one.2 in
      let all : AllWorked pace xs ys ws = rest.2 in
      let long : length ws ≡ length xs = all-long pace xs ys ws all in
      let ends : map ended_in (w ∷ ws) ≡ map ended (y ∷ ys) = ap₂ (λ (s : Status) (l : List Status). s ∷ l) one.1 rest.1 in
      record {
        first = w;
        others = ws;
        work = record {
          all = omega (arith, long, length-map xs of);
          well = All-cons (IsWell pace) w ws did.well (all-well pace xs ys ws all);
          lanes = to-lanes old.lanes new.lanes (w ∷ ws) (λ lanes e.
              let have = twins-lanes old mid (map told (x ∷ xs)) lanes twins e in
              let kept = kept-some mid.lanes new.lanes (drop (length (map told (x ∷ xs))) lanes) (back-lanes mid new (map told (y ∷ ys)) back) have.1 in
              let as_many : length (map told (x ∷ xs)) ≡ length (w ∷ ws) = omega (arith, long, length-map xs told) in (
                (lane-taken (told x).left (told y).left (first_list lanes) w did.passed.took did.dry have.0.0, all-lanes pace xs ys ws (drop 1 lanes) all have.0.1),
                kept ∙ ap (λ (n : ℕ). Some (drop n lanes)) as_many,
              ));
          timed = record { moments = did.moments; told = did.tells; timed = did.timed; untimed = all-untimed pace some xs ys ws all };
          sent = to-gains old.sent new.sent (all_sent (w ∷ ws)) (λ sent e.
              let none = twins-unsent old mid (map told (x ∷ xs)) sent twins e in
              back-sent mid new (map told (y ∷ ys)) (w ∷ ws) sent back (
                gains-some (told x).sent (told y).sent [] w.sends did.passed.gave (All-head IsUnsent (told x) (map told xs) none.0),
                all-sends pace xs ys ws all (All-tail IsUnsent (told x) (map told xs) none.0),
              ) none.1);
          left = IsKept-trans old.left mid.left new.left (twins-left old mid (map told (x ∷ xs)) twins) (back-left mid new (map told (y ∷ ys)) back);
          me = back-me mid new (map told (y ∷ ys)) back ∙ twins-me old mid (map told (x ∷ xs)) twins;
          end = ap end_of (sym ends);
        };
        counts = (did.counts, all-counts pace xs ys ws all);
      }

  -- why they ended so, together: a twin that failed is a fault of the link
  caused-one : (x y : X) (clock clock' first last l l' : ℕ) → IsCaused (record calm { link = fails x; clock = clock }) (record calm { link = fails y; clock = clock' }) (ended y)
      → fails x ≡ 0 → (0 < fails y → Rose l l') → (Rose clock clock' → Rose first last)
      → IsCaused (record calm { link = l; clock = first }) (record calm { link = l'; clock = last }) (ended y)
  caused-one x y clock clock' first last l l' caused none risen ticks = record {
    source = caused.source;
    sink = caused.sink;
    link = λ e. let rose = caused.link e in risen (omega (arith, none, rose));
    clock = λ e. ticks (caused.clock e);
    disk = caused.disk;
  }

  served-one : (x y : X) (left left' : Option (List ℕ)) (clock clock' l l' : ℕ) → Ran x left clock y left' clock' → fails x ≡ 0 → (0 < fails y → Rose l l') → (Rose l l' → ⊥)
      → (Rose clock clock' → ⊥) → IsServed (ended y)
  served-one x y left left' clock clock' l l' ran none risen no_link no_clock =
      serves-calm _ _ _ (paced x) _ _ (fails x) (fails y) clock clock' (ended y) (ran.ran silent) ran.caused (λ rose. no_link (risen (omega (arith, none, rose)))) no_clock

  all-caused : (xs ys : List X) (first last l l' : ℕ) → RunUntimed Ran xs ys → All (λ (u : X). fails u ≡ 0) xs → All (λ (u : X). 0 < fails u → Rose l l') ys
      → All (IsCaused (record calm { link = l; clock = first }) (record calm { link = l'; clock = last })) (map ended ys)
  all-caused [] [] first last l l' run none risen = All-nil (IsCaused (record calm { link = l; clock = first }) (record calm { link = l'; clock = last }))
  all-caused [] (y ∷ ys) first last l l' run none risen = absurd (omega (arith, run.as_many))
  all-caused (x ∷ xs) [] first last l l' run none risen = absurd (omega (arith, run.as_many))
  all-caused (x ∷ xs) (y ∷ ys) first last l l' run none risen =
      let ran : Ran x still 0 y still 0 = run.each 0 x (omega arith) in
      All-cons (IsCaused (record calm { link = l; clock = first }) (record calm { link = l'; clock = last })) (ended y) (map ended ys)
      (caused-one x y 0 0 first last l l' ran.caused (All-head (λ (u : X). fails u ≡ 0) x xs none) (All-head (λ (u : X). 0 < fails u → Rose l l') y ys risen) (λ rose. absurd (omega (arith, rose))))
      (all-caused xs ys first last l l' (tail-runs x y xs ys run) (All-tail (λ (u : X). fails u ≡ 0) x xs none) (All-tail (λ (u : X). 0 < fails u → Rose l l') y ys risen))

  all-served : (xs ys : List X) (l l' : ℕ) → RunUntimed Ran xs ys → All (λ (u : X). fails u ≡ 0) xs → All (λ (u : X). 0 < fails u → Rose l l') ys → (Rose l l' → ⊥)
      → All IsServed (map ended ys)
  all-served [] [] l l' run none risen no_link = All-nil IsServed
  all-served [] (y ∷ ys) l l' run none risen no_link = absurd (omega (arith, run.as_many))
  all-served (x ∷ xs) [] l l' run none risen no_link = absurd (omega (arith, run.as_many))
  all-served (x ∷ xs) (y ∷ ys) l l' run none risen no_link =
      let ran : Ran x still 0 y still 0 = run.each 0 x (omega arith) in
      All-cons IsServed (ended y) (map ended ys)
      (served-one x y still still 0 0 l l' ran (All-head (λ (u : X). fails u ≡ 0) x xs none) (All-head (λ (u : X). 0 < fails u → Rose l l') y ys risen) no_link (λ rose. absurd (omega (arith, rose))))
      (all-served xs ys l l' (tail-runs x y xs ys run) (All-tail (λ (u : X). fails u ≡ 0) x xs none) (All-tail (λ (u : X). 0 < fails u → Rose l l') y ys risen) no_link)

  -- a good end has no cause
  caused-done : (l l' c c' : ℕ) → IsCaused (record calm { link = l; clock = c }) (record calm { link = l'; clock = c' }) Done
  caused-done l l' c c' = record { source = λ e. absurd cc; sink = λ e. absurd cc; link = λ e. absurd cc; clock = λ e. absurd cc; disk = λ e. absurd cc }

  caused-spent : (l l' c c' : ℕ) → IsCaused (record calm { link = l; clock = c }) (record calm { link = l'; clock = c' }) TurnsSpent
  caused-spent l l' c c' = record { source = λ e. absurd cc; sink = λ e. absurd cc; link = λ e. absurd cc; clock = λ e. absurd cc; disk = λ e. absurd cc }

  known-one : (x y : X) (left left' : Option (List ℕ)) (clock clock' : ℕ) → Ran x left clock y left' clock' → IsWorkersEnd (ended y)
  known-one x y left left' clock clock' ran = ends-known _ _ _ (paced x) _ _ (ended y) (ran.ran silent) (λ e. let rose = ran.caused.disk e in absurd (omega (arith, rose)))

  all-known : (xs ys : List X) → RunUntimed Ran xs ys → All IsWorkersEnd (map ended ys)
  all-known [] [] run = All-nil IsWorkersEnd
  all-known [] (y ∷ ys) run = absurd (omega (arith, run.as_many))
  all-known (x ∷ xs) [] run = absurd (omega (arith, run.as_many))
  all-known (x ∷ xs) (y ∷ ys) run =
      All-cons IsWorkersEnd (ended y) (map ended ys) (known-one x y still still 0 0 (run.each 0 x (omega arith))) (all-known xs ys (tail-runs x y xs ys run))

  -- the same of lists whose first ones have a clock
  module _ (xs ys : List X) (left left' : Option (List ℕ)) (clock clock' : ℕ) (run : RunAll Ran xs left clock ys left' clock') where
    split-old : (Q : X → Type 0) → All Q xs → All Q (run.first_old ∷ run.others_old)
    split-old Q all = subst (All Q) run.is_old all

    split-new : (Q : X → Type 0) → All Q ys → All Q (run.first_new ∷ run.others_new)
    split-new Q all = subst (All Q) run.is_new all

    pub run-together : (pace : Pace) → 1 ≤ pace.tick_ms → (old mid new : LinkTold) → AreTwins old mid (map told xs) → ComeBack mid new (map told ys)
        → All (λ (u : X). paced u ≡ pace) xs → IsWholeRun (end_of (map ended ys)) → WorkAtDesk pace (map of xs) (map of ys) old new left left' (end_of (map ended ys))
    run-together pace some old mid new twins back same whole =
        let x = run.first_old in
        let y = run.first_new in
        let goal : List X → List X → Type 0 = λ us vs. WorkAtDesk pace (map of us) (map of vs) old new left left' (end_of (map ended vs)) in
        subst (λ (us : List X). goal us ys) (sym run.is_old) (subst (λ (vs : List X). goal (x ∷ run.others_old) vs) (sym run.is_new)
        (together pace some x y run.others_old run.others_new left left' clock clock' old mid new
        (subst (λ (us : List X). AreTwins old mid (map told us)) run.is_old twins) (subst (λ (vs : List X). ComeBack mid new (map told vs)) run.is_new back)
        run.first run.others (split-old (λ (u : X). paced u ≡ pace) same) (subst (λ (vs : List X). IsWholeRun (end_of (map ended vs))) run.is_new whole)))

    pub run-caused : (l l' : ℕ) → All (λ (u : X). fails u ≡ 0) xs → All (λ (u : X). 0 < fails u → Rose l l') ys
        → IsCaused (record calm { link = l; clock = clock }) (record calm { link = l'; clock = clock' }) (end_of (map ended ys))
    run-caused l l' none risen =
        let x = run.first_old in
        let y = run.first_new in
        let Q = IsCaused (record calm { link = l; clock = clock }) (record calm { link = l'; clock = clock' }) in
        let unfailed = split-old (λ (u : X). fails u ≡ 0) none in
        let rose = split-new (λ (u : X). 0 < fails u → Rose l l') risen in
        subst (λ (vs : List X). Q (end_of (map ended vs))) (sym run.is_new)
        (ends-as Q (caused-done l l' clock clock') (caused-spent l l' clock clock') (map ended (y ∷ run.others_new))
        (All-cons Q (ended y) (map ended run.others_new)
        (caused-one x y clock clock' clock clock' l l' run.first.caused (All-head (λ (u : X). fails u ≡ 0) x run.others_old unfailed)
        (All-head (λ (u : X). 0 < fails u → Rose l l') y run.others_new rose) (λ ticks. ticks))
        (all-caused run.others_old run.others_new clock clock' l l' run.others (All-tail (λ (u : X). fails u ≡ 0) x run.others_old unfailed)
        (All-tail (λ (u : X). 0 < fails u → Rose l l') y run.others_new rose))))

    pub run-known : IsWorkersEnd (end_of (map ended ys))
    run-known =
        subst (λ (vs : List X). IsWorkersEnd (end_of (map ended vs))) (sym run.is_new)
        (ends-as IsWorkersEnd tt tt (map ended (run.first_new ∷ run.others_new))
        (All-cons IsWorkersEnd (ended run.first_new) (map ended run.others_new) (known-one run.first_old run.first_new left left' clock clock' run.first)
        (all-known run.others_old run.others_new run.others)))

    pub run-served : (l l' : ℕ) → All (λ (u : X). fails u ≡ 0) xs → All (λ (u : X). 0 < fails u → Rose l l') ys → (Rose l l' → ⊥) → (Rose clock clock' → ⊥)
        → IsServed (end_of (map ended ys))
    run-served l l' none risen no_link no_clock =
        let x = run.first_old in
        let y = run.first_new in
        let unfailed = split-old (λ (u : X). fails u ≡ 0) none in
        let rose = split-new (λ (u : X). 0 < fails u → Rose l l') risen in
        subst (λ (vs : List X). IsServed (end_of (map ended vs))) (sym run.is_new)
        (ends-as IsServed tt tt (map ended (y ∷ run.others_new))
        (All-cons IsServed (ended y) (map ended run.others_new)
        (served-one x y left left' clock clock' l l' run.first (All-head (λ (u : X). fails u ≡ 0) x run.others_old unfailed)
        (All-head (λ (u : X). 0 < fails u → Rose l l') y run.others_new rose) no_link no_clock)
        (all-served run.others_old run.others_new l l' run.others (All-tail (λ (u : X). fails u ≡ 0) x run.others_old unfailed)
        (All-tail (λ (u : X). 0 < fails u → Rose l l') y run.others_new rose) no_link)))
