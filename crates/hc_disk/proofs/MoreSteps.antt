-- One more step of a disk in memory, with its name or piece.
use Rattle.std.proofs.Common.{◌≡◌, ℕ, ◌+◌, ◌≤◌, List, [], ◌∷◌, ◌++◌, length, map, take, drop, get_or, All, refl, sym, ap, ◌∙◌, subst, arith, inl, inr, length-append, length-drop}
use Rattle.std.proofs.lemmas.Bool.{cases_lt}
use Rattle.std.proofs.lemmas.List.{drop-append-le, drop_at, get_or_append_left, get_or_push, length_push, map-append, take-append-le, take_all, take_at}
use Rattle.std.proofs.lemmas.List.Elements.{All-head, All-push, All-tail, All-weaker}
use Rattle.hc_disk.specs.declared.stored.StoredFile.{StoredFile}
use Rattle.hc_disk.specs.declared.steps.Run.{Run}
use Rattle.hc_disk.specs.declared.steps.Step.{Step}
use Rattle.hc_disk.specs.declared.steps.Step.TheVariants as step
use Rattle.hc_disk.specs.MemDisk.{Call, Selected, Put, Fits, IsSound, LiesWithin, bytes_at, call_of, moments_of}

-- more bytes at the end change no run
bytes_at-more : (run : Run) (xs ys : List ℕ) → run.start + run.len ≤ length xs → bytes_at (xs ++ ys) run ≡ bytes_at xs run
bytes_at-more run xs ys inside =
    ap (take run.len) (drop-append-le run.start xs ys (omega arith)) ∙ take-append-le run.len (drop run.start xs) ys (omega (arith, length-drop run.start xs))

call_of-more : (s : Step) (xs ys : List ℕ) → LiesWithin (length xs) s → call_of (xs ++ ys) s ≡ call_of xs s
call_of-more (step.Select run) xs ys inside = ap Selected (bytes_at-more run xs ys inside)
call_of-more (step.Write at run) xs ys inside = ap (Put at) (bytes_at-more run xs ys inside)
call_of-more (step.Cut len) xs ys inside = refl
call_of-more step.Sync xs ys inside = refl

calls-more : (steps : List Step) (xs ys : List ℕ) → All (LiesWithin (length xs)) steps → map (call_of (xs ++ ys)) steps ≡ map (call_of xs) steps
calls-more [] xs ys inside = refl
calls-more (s ∷ steps) xs ys inside =
    ap (λ (c : Call). c ∷ map (call_of (xs ++ ys)) steps) (call_of-more s xs ys (All-head (LiesWithin (length xs)) s steps inside))
    ∙ ap (λ l. call_of xs s ∷ l) (calls-more steps xs ys (All-tail (LiesWithin (length xs)) s steps inside))

pub calls-push : (steps : List Step) (s : Step) (xs ys : List ℕ) → All (LiesWithin (length xs)) steps → map (call_of (xs ++ ys)) (steps ++ s ∷ []) ≡ map (call_of xs) steps ++ call_of (xs ++ ys) s ∷ []
calls-push steps s xs ys inside =
    map-append (call_of (xs ++ ys)) steps (s ∷ []) ∙ ap (λ l. l ++ call_of (xs ++ ys) s ∷ []) (calls-more steps xs ys inside)

-- the bytes that were put there
pub bytes_at-last : (xs ys : List ℕ) → bytes_at (xs ++ ys) (record { start = length xs; len = length ys }) ≡ ys
bytes_at-last xs ys = ap (take (length ys)) (drop_at xs ys (length xs) refl) ∙ take_all (length ys) ys (omega arith)

LiesWithin-more : (m n : ℕ) (s : Step) → m ≤ n → LiesWithin m s → LiesWithin n s
LiesWithin-more m n (step.Select run) le inside = omega (arith, le, inside)
LiesWithin-more m n (step.Write at run) le inside = omega (arith, le, inside)
LiesWithin-more m n (step.Cut len) le inside = tt
LiesWithin-more m n step.Sync le inside = tt

pub inside-push : (steps : List Step) (s : Step) (m n : ℕ) → m ≤ n → All (LiesWithin m) steps → LiesWithin n s → All (LiesWithin n) (steps ++ s ∷ [])
inside-push steps s m n le inside last =
    All-push (LiesWithin n) steps s (All-weaker (LiesWithin m) (LiesWithin n) (λ x within. LiesWithin-more m n x le within) steps inside) last

pub IsSound-push : (files : List StoredFile) (calls : List Call) (c : Call) → IsSound files calls → Fits c (moments_of files calls) → IsSound files (calls ++ c ∷ [])
IsSound-push files calls c sound last i d within =
    elim (cases_lt i (length calls)) [
      | inl before ↦
          let front : take i (calls ++ c ∷ []) ≡ take i calls = take-append-le i calls (c ∷ []) (omega arith) in
          let same : get_or (calls ++ c ∷ []) i d ≡ get_or calls i d = get_or_append_left calls (c ∷ []) d i before in
          rw (front, same) (sound i d before)
      | inr behind ↦
          let there : length calls ≡ i = omega (arith, length_push calls c, within) in
          let front : take i (calls ++ c ∷ []) ≡ calls = take_at calls (c ∷ []) i there in
          let same : get_or (calls ++ c ∷ []) i d ≡ c = get_or_push calls c d i there in
          rw (front, same) last
    ]

-- a step with the bytes that it has, put after the others
module _ (steps steps_new : List Step) (s : Step) (xs ys xs_new : List ℕ) (longer : xs_new ≡ xs ++ ys) (more : steps_new ≡ steps ++ s ∷ []) (inside : All (LiesWithin (length xs)) steps) where
  pub inside_kept : LiesWithin (length xs + length ys) s → All (LiesWithin (length xs_new)) steps_new
  inside_kept last =
      subst (λ (l : List Step). All (LiesWithin (length xs_new)) l) (sym more)
      (inside-push steps s (length xs) (length xs_new) (omega (arith, ap length longer, length-append xs ys)) inside
      (LiesWithin-more (length xs + length ys) (length xs_new) s (omega (arith, ap length longer, length-append xs ys)) last))

  pub calls_kept : (c : Call) → call_of (xs ++ ys) s ≡ c → map (call_of xs_new) steps_new ≡ map (call_of xs) steps ++ c ∷ []
  calls_kept c is =
      ap (λ (l : List ℕ). map (call_of l) steps_new) longer
      ∙ ap (map (call_of (xs ++ ys))) more
      ∙ calls-push steps s xs ys inside
      ∙ ap (λ (x : Call). map (call_of xs) steps ++ x ∷ []) is

module _ (xs ys : List ℕ) (run : Run) (is : run ≡ record { start = length xs; len = length ys }) where
  pub run_inside : run.start + run.len ≤ length xs + length ys
  run_inside = omega (arith, ap (λ (r : Run). r.start) is, ap (λ (r : Run). r.len) is)

  pub run_is : bytes_at (xs ++ ys) run ≡ ys
  run_is = ap (bytes_at (xs ++ ys)) is ∙ bytes_at-last xs ys
