-- The terms of runs, and runs that grow and end.
use Rattle.std.proofs.Common.{◌≡◌, ◌≢◌, ℕ, suc, ◌+◌, ◌-◌, ◌<◌, ◌≤◌, List, [], ◌∷◌, ◌++◌, length, take, drop, get_or, ap, sym, ◌∙◌, refl, subst, inl, inr, arith, take-append-drop, length-drop}
use Rattle.std.specs.Prelude.{true, false, nat_le, if◌then◌else◌}
use Rattle.std.specs.List.{All, fold}
use Rattle.std.specs.List.Sorted.{IsNonDecreasingBy, IsPartitionPoint}
use Rattle.std.proofs.lemmas.Bool.{cases_order, le-leb}
use Rattle.std.proofs.lemmas.List.{take_more, take_all, get_or-drop, get_or_push, get_or_append_left, length_push, nil_from_length}
use Rattle.std.proofs.lemmas.List.Elements.{All-push}
use Rattle.std.proofs.lemmas.List.Quantifiers.{all_pairs_push}
use Rattle.std.proofs.lemmas.List.Sums.{fold_push, fold-append}
use Rattle.hc_log.specs.declared.runs.Run.{Run}
use Rattle.hc_log.specs.Runs.{term_in, AreRunsBefore}

-- a run is left where it begins later
starts_later : (run : Run) (index : ℕ) → index < run.first → nat_le run.first index ≡ false
starts_later run index h = grind arith

-- runs that begin later leave the term
fold_past : (index term : ℕ) (runs : List Run) → All (λ run. nat_le run.first index ≡ false) runs → fold (λ t run. if nat_le run.first index then run.term else t) term runs ≡ term
fold_past index term [] past = refl
fold_past index term (r ∷ rs) past =
    let first : nat_le r.first index ≡ false = past 0 r (omega arith) in
    rw first (fold_past index term rs (λ k d h. past (suc k) d (omega arith)))

-- one run more
term_in_push : (runs : List Run) (run : Run) (index : ℕ) → term_in (runs ++ run ∷ []) index ≡ (if nat_le run.first index then run.term else term_in runs index)
unfolding term_in
term_in_push runs run index = fold_push (λ t r. if nat_le r.first index then r.term else t) 0 runs run

-- it is of no matter where it begins later
pub term_in_push-before : (runs : List Run) (run : Run) (index : ℕ) → index < run.first → term_in (runs ++ run ∷ []) index ≡ term_in runs index
term_in_push-before runs run index h = term_in_push runs run index ∙ rw (starts_later run index h) refl

-- and gives the term from where it begins on
pub term_in_push-there : (runs : List Run) (run : Run) (index : ℕ) → run.first ≤ index → term_in (runs ++ run ∷ []) index ≡ run.term
term_in_push-there runs run index h = term_in_push runs run index ∙ rw (le-leb run.first index h) refl

-- no run begins at 0
pub term_in_zero : (index : ℕ) (runs : List Run) → AreRunsBefore index runs → term_in runs 0 ≡ 0
unfolding term_in
term_in_zero index runs are = fold_past 0 0 runs (λ k d h. starts_later (get_or runs k d) 0 (are.counted k d h))

-- the firsts never fall
pub firsts_ascend : (index : ℕ) (runs : List Run) → AreRunsBefore index runs → IsNonDecreasingBy (λ run. run.first) runs
firsts_ascend index runs are i j d le h =
    elim (cases_order i j) [
      | inl same ↦ rw same (omega arith)
      | inr (inl before) ↦ (let below = are.ascend i j d before h in omega (arith, below))
      | inr (inr after) ↦ absurd (omega arith)
    ]

-- where none begins there or before
pub term_in-none : (index : ℕ) (runs : List Run) → IsPartitionPoint (λ run. nat_le run.first index ≡ true) (λ run. nat_le run.first index ≡ false) runs 0 → term_in runs index ≡ 0
unfolding term_in
term_in-none index runs split = fold_past index 0 runs (λ k d h. split.1 k d (omega arith) h)

-- those that begin later are of no matter
term_in-take : (index : ℕ) (runs : List Run) (count : ℕ) → IsPartitionPoint (λ run. nat_le run.first index ≡ true) (λ run. nat_le run.first index ≡ false) runs count → term_in runs index ≡ term_in (take count runs) index
unfolding term_in
term_in-take index runs count split =
    let f : ℕ → Run → ℕ = λ t run. if nat_le run.first index then run.term else t in
    let past : All (λ run. nat_le run.first index ≡ false) (drop count runs) =
    (λ k d h. let there = split.1 (count + k) d (omega arith) (omega (arith, h, length-drop count runs)) in rw (get_or-drop count runs k d) there) in
    ap (fold f 0) (sym (take-append-drop count runs)) ∙ fold-append f 0 (take count runs) (drop count runs)
    ∙ fold_past index (fold f 0 (take count runs)) (drop count runs) past

-- the last that begins there or before gives the term
pub term_in-found : (index : ℕ) (runs : List Run) (count : ℕ) (d : Run) → IsPartitionPoint (λ run. nat_le run.first index ≡ true) (λ run. nat_le run.first index ≡ false) runs count
    → 0 < count → count ≤ length runs → term_in runs index ≡ (get_or runs (count - 1) d).term
term_in-found index runs count d split some within =
    let last = get_or runs (count - 1) d in
    let back : count ≡ count - 1 + 1 = omega arith in
    let step : take count runs ≡ take (count - 1) runs ++ last ∷ [] = ap (λ n. take n runs) back ∙ take_more runs (count - 1) d (omega arith) in
    let passes : nat_le last.first index ≡ true = split.0 (count - 1) d (omega arith) (omega arith) in
    term_in-take index runs count split ∙ ap (λ rs. term_in rs index) step ∙ term_in_push (take (count - 1) runs) last index ∙ rw passes refl

-- the same runs, before a later index
pub AreRunsBefore-later : (index : ℕ) (runs : List Run) → AreRunsBefore index runs → AreRunsBefore (index + 1) runs
AreRunsBefore-later index runs are =
    record {
      counted = are.counted;
      before = λ k d h. (let below = are.before k d h in omega (arith, below));
      ascend = are.ascend;
    }

-- a run more, that begins at the index
pub AreRunsBefore-push : (index : ℕ) (runs : List Run) (run : Run) → 1 ≤ index → run.first ≡ index → AreRunsBefore index runs → AreRunsBefore (index + 1) (runs ++ run ∷ [])
AreRunsBefore-push index runs run one starts are =
    let later = AreRunsBefore-later index runs are in
    record {
      counted = All-push (λ (r : Run). 1 ≤ r.first) runs run are.counted (omega (arith, one, starts));
      before = All-push (λ (r : Run). r.first < index + 1) runs run later.before (omega (arith, starts));
      ascend = all_pairs_push (λ (a b : Run). a.first < b.first) runs run are.ascend (λ k d h. (let below = are.before k d h in omega (arith, below, starts)));
    }

-- without the last run
pub AreRunsBefore-front : (index : ℕ) (front : List Run) (run : Run) → AreRunsBefore (index + 1) (front ++ run ∷ []) → run.first ≡ index → AreRunsBefore index front
AreRunsBefore-front index front run are starts =
    record {
      counted = λ k d h.
          (let there = are.counted k d (omega (arith, h, length_push front run)) in
          rw (get_or_append_left front (run ∷ []) d k h) at there);
      before = λ k d h.
          (let below = are.ascend k (length front) d h (omega (arith, length_push front run)) in
          let here = rw (get_or_append_left front (run ∷ []) d k h, get_or_push front run d (length front) refl) at below in
          omega (arith, here, starts));
      ascend = λ i j d order h.
          (let below = are.ascend i j d order (omega (arith, h, length_push front run)) in
          rw (get_or_append_left front (run ∷ []) d i (omega arith), get_or_append_left front (run ∷ []) d j h) at below);
    }

-- a last run that began before goes on
pub AreRunsBefore-stay : (index : ℕ) (front : List Run) (run : Run) → AreRunsBefore (index + 1) (front ++ run ∷ []) → run.first ≢ index → AreRunsBefore index (front ++ run ∷ [])
AreRunsBefore-stay index front run are apart =
    let last = are.before (length front) run (omega (arith, length_push front run)) in
    let most : run.first < index + 1 = rw (get_or_push front run run (length front) refl) at last in
    let less : run.first < index = omega (arith, most, apart) in
    record {
      counted = are.counted;
      before = All-push (λ (r : Run). r.first < index) front run (λ k d h.
          (let below = are.ascend k (length front) d h (omega (arith, length_push front run)) in
          let here = rw (get_or_append_left front (run ∷ []) d k h, get_or_push front run d (length front) refl) at below in
          omega (arith, here, less))) less;
      ascend = are.ascend;
    }

-- no runs begin before any index
pub AreRunsBefore-none : (index : ℕ) → AreRunsBefore index []
AreRunsBefore-none index =
    record {
      counted = λ k d h. absurd (omega arith);
      before = λ k d h. absurd (omega arith);
      ascend = λ i j d order h. absurd (omega arith);
    }

-- runs are all but the last, and the last
pub last_run : (runs : List Run) (d : Run) → 0 < length runs → runs ≡ take (length runs - 1) runs ++ get_or runs (length runs - 1) d ∷ []
last_run runs d some =
    let back : length runs - 1 + 1 ≡ length runs = omega arith in
    sym (take_all (length runs - 1 + 1) runs (omega arith)) ∙ take_more runs (length runs - 1) d (omega arith)

-- what is left when the term at the last index goes
pub record Dropped (index : ℕ) (runs left : List Run) : Type 0 where
  pub ascend : AreRunsBefore index left
  pub same : (i : ℕ) → i < index → term_in left i ≡ term_in runs i

-- the last run begins at the index, and ends
pub Dropped-last : (index : ℕ) (runs : List Run) (d : Run) → 0 < length runs → (get_or runs (length runs - 1) d).first ≡ index → AreRunsBefore (index + 1) runs → Dropped index runs (take (length runs - 1) runs)
Dropped-last index runs d some starts are =
    let last = get_or runs (length runs - 1) d in
    let front = take (length runs - 1) runs in
    let whole : runs ≡ front ++ last ∷ [] = last_run runs d some in
    record {
      ascend = AreRunsBefore-front index front last (subst (AreRunsBefore (index + 1)) whole are) starts;
      same = λ i h. sym (ap (λ rs. term_in rs i) whole ∙ term_in_push-before front last i (omega (arith, h, starts)));
    }

-- so the terms before it stay, as they are read
pub dropped_before : (runs read left : List Run) (run : Run) (index count : ℕ) → read ≡ runs → 0 < length read → run ≡ get_or read (length read - 1) run → run.first ≡ index
    → AreRunsBefore (index + 1) runs → count ≡ length runs → left ≡ take (count - 1) runs → (i : ℕ) → i < index → term_in left i ≡ term_in runs i
dropped_before runs read left run index count whole some last starts are long rest i h =
    let some_too : 0 < length runs = subst (λ rs. 0 < length rs) whole some in
    let last_too : run ≡ get_or runs (length runs - 1) run = subst (λ rs. run ≡ get_or rs (length rs - 1) run) whole last in
    let first : (get_or runs (length runs - 1) run).first ≡ index = sym (ap (λ (r : Run). r.first) last_too) ∙ starts in
    ap (λ rs. term_in rs i) (rest ∙ ap (λ n. take (n - 1) runs) long) ∙ (Dropped-last index runs run some_too first are).same i h

-- it began before, and goes on
pub Dropped-none : (index : ℕ) (runs : List Run) (d : Run) → 0 < length runs → (get_or runs (length runs - 1) d).first ≢ index → AreRunsBefore (index + 1) runs → Dropped index runs runs
Dropped-none index runs d some apart are =
    let last = get_or runs (length runs - 1) d in
    let front = take (length runs - 1) runs in
    let whole : runs ≡ front ++ last ∷ [] = last_run runs d some in
    record {
      ascend = subst (AreRunsBefore index) (sym whole) (AreRunsBefore-stay index front last (subst (AreRunsBefore (index + 1)) whole are) apart);
      same = λ i h. refl;
    }

-- there are no runs
pub Dropped-nothing : (index : ℕ) (runs : List Run) → length runs ≡ 0 → Dropped index runs runs
Dropped-nothing index runs none =
    record {
      ascend = subst (AreRunsBefore index) (sym (nil_from_length runs none)) (AreRunsBefore-none index);
      same = λ i h. refl;
    }
