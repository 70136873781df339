-- Each worker ran by its loop on its twin, however they ended.
use Rattle.std.proofs.Common.{◌≡◌, ℕ, List, [], ◌∷◌, Option, Some, All, length, map, refl, sym, ap, ◌∙◌, subst, arith}
use Rattle.std.proofs.lemmas.List.Elements.{All-cons, All-head, All-nil, All-tail}
use Rattle.std.proofs.lemmas.List.{length-map}
use Rattle.r2_link.specs.Links.{LinkTold}
use Rattle.r2_desk.specs.States.{PassState}
use Rattle.cmd_status.specs.declared.status.Status.{Status}
use Rattle.cmd_loop.specs.declared.pace.Pace.{Pace}
use Rattle.cmd_loop.specs.Ends.{Ends}
use Rattle.cmd_loop.specs.Loop.{Serves}
use Rattle.cmd_loop.specs.Plain.{Unstored}
use Rattle.cmd_loop.proofs.Weaker.{serves-weaker}
use Rattle.cmd_router.specs.Desks.{AreTwins, ComeBack}
use Rattle.cmd_router.specs.Loops.{Loop, LoopRan, SendsFew, WorkersRan}
use Rattle.cmd_router.specs.Seats.{RunAll, RunUntimed}
use Rattle.cmd_router.specs.Workers.{end_of}
use Rattle.cmd_router.proofs.Together.{Ran, tail-runs}

-- a clock that stands still
abbrev still : Option (List ℕ)
still = Some (0 ∷ [])

module _ {X P : Type 0} (pass : P → PassState) (party : X → P) (told : X → LinkTold) (fails : X → ℕ) (paced : X → Pace) (ended : X → Status) where
  abbrev R : X → Option (List ℕ) → ℕ → X → Option (List ℕ) → ℕ → Type 0
  R = Ran pass party told fails paced ended

  abbrev loop : X → X → Loop
  loop x y = record { made = told x; left = told y; ended = ended y }

  -- one worker
  loop-ran : (pace : Pace) (x y : X) (left left' : Option (List ℕ)) (clock clock' : ℕ) → paced x ≡ pace → R x left clock y left' clock' → LoopRan pace left left' (loop x y)
  loop-ran pace x y left left' clock clock' same ran o =
      let a : Ends = record o { link = told x; clock = left } in
      let b : Ends = record o { link = told y; clock = left' } in
      subst (λ (q : Pace). Serves (Unstored SendsFew) (Unstored SendsFew) (Unstored SendsFew) q a b (ended y)) same
      (serves-weaker _ (Unstored SendsFew) _ (Unstored SendsFew) _ (Unstored SendsFew)
      (λ happened stored sends right. (right.0, right.1.few)) (λ happened stored sends right. (right.0, right.1.few)) (λ happened stored sends right. (right.0, right.1.1.few))
      (paced x) a b (ended y) (ran.ran o))

  -- those that have no clock
  abbrev Looped : Pace → List X → List X → List Loop → Type 0
  Looped pace xs ys ls =
      (map (λ (l : Loop). l.made) ls ≡ map told xs) × (map (λ (l : Loop). l.left) ls ≡ map told ys) × (map (λ (l : Loop). l.ended) ls ≡ map ended ys)
      × All (LoopRan pace still still) ls

  loops-ran : (pace : Pace) (xs ys : List X) → RunUntimed R xs ys → All (λ (u : X). paced u ≡ pace) xs → (ls : List Loop) × Looped pace xs ys ls
  loops-ran pace [] [] run same = ([], (refl, refl, refl, All-nil (LoopRan pace still still)))
  loops-ran pace [] (y ∷ ys) run same = absurd (omega (arith, run.as_many))
  loops-ran pace (x ∷ xs) [] run same = absurd (omega (arith, run.as_many))
  loops-ran pace (x ∷ xs) (y ∷ ys) run same =
      let rest = loops-ran pace xs ys (tail-runs pass party told fails paced ended x y xs ys run) (All-tail (λ (u : X). paced u ≡ pace) x xs same) in (
        loop x y ∷ rest.0,
        (
          ap (λ (l : List LinkTold). told x ∷ l) rest.1.0,
          ap (λ (l : List LinkTold). told y ∷ l) rest.1.1,
          ap (λ (l : List Status). ended y ∷ l) rest.1.2,
          All-cons (LoopRan pace still still) (loop x y) rest.0
              (loop-ran pace x y still still 0 0 (All-head (λ (u : X). paced u ≡ pace) x xs same) (run.each 0 x (omega arith))) rest.1.3,
        ),
      )

  -- all of them, the first by its own clock
  all-ran : (pace : Pace) (x y : X) (xs ys : List X) (left left' : Option (List ℕ)) (clock clock' : ℕ) (old mid new : LinkTold)
      → AreTwins old mid (map told (x ∷ xs)) → ComeBack mid new (map told (y ∷ ys)) → R x left clock y left' clock' → RunUntimed R xs ys
      → All (λ (u : X). paced u ≡ pace) (x ∷ xs) → WorkersRan (length (x ∷ xs)) pace old new left left' (end_of (map ended (y ∷ ys)))
  all-ran pace x y xs ys left left' clock clock' old mid new twins back ran run same =
      let rest = loops-ran pace xs ys run (All-tail (λ (u : X). paced u ≡ pace) x xs same) in
      let ls : List Loop = rest.0 in
      let long : length ls ≡ length xs = sym (length-map ls (λ (l : Loop). l.made)) ∙ ap length rest.1.0 ∙ length-map xs told in
      record {
        first = loop x y;
        others = ls;
        between = mid;
        all = omega (arith, long);
        made = subst (λ (l : List LinkTold). AreTwins old mid (told x ∷ l)) (sym rest.1.0) twins;
        timed = loop-ran pace x y left left' clock clock' (All-head (λ (u : X). paced u ≡ pace) x xs same) ran;
        untimed = rest.1.3;
        back = subst (λ (l : List LinkTold). ComeBack mid new (told y ∷ l)) (sym rest.1.1) back;
        end = ap (λ (l : List Status). end_of (ended y ∷ l)) (sym rest.1.2);
      }

  pub run-loops : (xs ys : List X) (left left' : Option (List ℕ)) (clock clock' : ℕ) → RunAll R xs left clock ys left' clock' → (pace : Pace) (old mid new : LinkTold)
      → AreTwins old mid (map told xs) → ComeBack mid new (map told ys) → All (λ (u : X). paced u ≡ pace) xs
      → WorkersRan (length xs) pace old new left left' (end_of (map ended ys))
  run-loops xs ys left left' clock clock' run pace old mid new twins back same =
      let goal : List X → List X → Type 0 = λ us vs. WorkersRan (length us) pace old new left left' (end_of (map ended vs)) in
      subst (λ (us : List X). goal us ys) (sym run.is_old) (subst (λ (vs : List X). goal (run.first_old ∷ run.others_old) vs) (sym run.is_new)
      (all-ran pace run.first_old run.first_new run.others_old run.others_new left left' clock clock' old mid new
      (subst (λ (us : List X). AreTwins old mid (map told us)) run.is_old twins) (subst (λ (vs : List X). ComeBack mid new (map told vs)) run.is_new back)
      run.first run.others (subst (All (λ (u : X). paced u ≡ pace)) run.is_old same)))
