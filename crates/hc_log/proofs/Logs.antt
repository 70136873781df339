-- Logs that grow, that are cut, and that are joined.
use Rattle.std.proofs.Common.{◌≡◌, ℕ, ◌+◌, ◌-◌, ◌<◌, ◌≤◌, List, [], ◌∷◌, ◌++◌, length, map, min, take, drop, get_or, ap, sym, ◌∙◌, refl, inl, inr, ltb, arith, length-append, length-drop}
use Rattle.std.specs.Prelude.{◌||◌, Bool, is_some}
use Rattle.std.specs.List.{position, position_or_len, list_any}
use Rattle.std.proofs.lemmas.List.Sums.{fails_before_first, passes_at_first}
use Rattle.std.specs.List.{All}
use Rattle.std.proofs.lemmas.List.Elements.{All-append, All-take}
use Rattle.std.proofs.lemmas.List.Folds.{list_any-append, list_any_at, list_any_none}
use Rattle.r2_base.specs.declared.rid.Rid.{Rid}
use Rattle.std.proofs.Math.Seq.{take-append-add}
use Rattle.std.proofs.lemmas.Bool.{cases_Bool, cases_lt, ltb-true, ltb-false}
use Rattle.std.proofs.lemmas.List.{take_more, take_all, take-take, take_at, take-append-le, get_or_push, get_or-take, get_or-drop, get_or_append_left, get_or-append-add, length_push, length-take, take_min, take-map, drop-map, map-append}
use Rattle.hc_log.specs.declared.stored.Stored.{Stored}
use Rattle.hc_log.proofs.Counting.{IsWithinLimits-none}
use Rattle.hc_log.specs.Log.{IsWithinLimits, MayFollow, FollowEach, IsLog, metas_of, asks_as, stands_in, blank_of, stored_at}

-- no entries follow any log
pub FollowEach-none : (log : List Stored) → FollowEach log []
FollowEach-none log i d h = absurd (omega arith)

-- one entry more
pub FollowEach-push : (log entries : List Stored) (s : Stored) → FollowEach log entries → MayFollow (log ++ entries) s → FollowEach log (entries ++ s ∷ [])
FollowEach-push log entries s each last i d h =
    elim (cases_lt i (length entries)) [
      | inl before ↦
          let front : take i (entries ++ s ∷ []) ≡ take i entries = take-append-le i entries (s ∷ []) (omega arith) in
          let same : get_or (entries ++ s ∷ []) i d ≡ get_or entries i d = get_or_append_left entries (s ∷ []) d i before in
          rw (front, same) (each i d before)
      | inr behind ↦
          let there : length entries ≡ i = omega (arith, length_push entries s) in
          let front : take i (entries ++ s ∷ []) ≡ entries = take_at entries (s ∷ []) i there in
          let same : get_or (entries ++ s ∷ []) i d ≡ s = get_or_push entries s d i there in
          rw (front, same) last
    ]

-- the first of them
pub FollowEach-take : (log entries : List Stored) (n : ℕ) → FollowEach log entries → FollowEach log (take n entries)
FollowEach-take log entries n each i d h =
    let inside : i < n = omega (arith, length-take n entries) in
    let within : i < length entries = omega (arith, length-take n entries) in
    let front : take i (take n entries) ≡ take i entries = take-take i n entries (omega arith) in
    let same : get_or (take n entries) i d ≡ get_or entries i d = get_or-take n entries i d inside in
    rw (front, same) (each i d within)

-- a log with entries that follow it is a log
pub IsLog-append : (log entries : List Stored) → IsLog log → FollowEach log entries → IsLog (log ++ entries)
IsLog-append log entries is_log each i d h =
    elim (cases_lt i (length log)) [
      | inl before ↦
          let front : take i (log ++ entries) ≡ take i log = take-append-le i log entries (omega arith) in
          let same : get_or (log ++ entries) i d ≡ get_or log i d = get_or_append_left log entries d i before in
          rw (front, same) (is_log i d before)
      | inr behind ↦ behind_log log entries i (i - length log) d (omega arith) each (omega (arith, length-append log entries))
    ]
  where
    behind_log : (log entries : List Stored) (i k : ℕ) (d : Stored) → i ≡ length log + k → FollowEach log entries → k < length entries → MayFollow (take i (log ++ entries)) (get_or (log ++ entries) i d)
    behind_log log entries i k d e each h =
        let front : take (length log + k) (log ++ entries) ≡ log ++ take k entries = take-append-add log entries k in
        let same : get_or (log ++ entries) (length log + k) d ≡ get_or entries k d = get_or-append-add log entries k d in
        rw (e, front, same) (each k d h)

-- a log with one entry more that may follow it
pub IsLog-push : (log : List Stored) (s : Stored) → IsLog log → MayFollow log s → IsLog (log ++ s ∷ [])
IsLog-push log s is_log may = FollowEach-push [] log s is_log may

-- the first entries of a log
pub IsLog-take : (n : ℕ) (log : List Stored) → IsLog log → IsLog (take n log)
IsLog-take n log is_log = FollowEach-take [] log n is_log

-- a log is within the limits: its last entry might follow the others
pub IsLog-limits : (log : List Stored) → IsLog log → IsWithinLimits log
IsLog-limits [] is_log = IsWithinLimits-none
IsLog-limits (x ∷ xs) is_log =
    let last = is_log (length xs) x (omega arith) in
    let whole : take (length xs) (x ∷ xs) ++ get_or (x ∷ xs) (length xs) x ∷ [] ≡ x ∷ xs =
    sym (take_more (x ∷ xs) (length xs) x (omega arith)) ∙ take_all (length xs + 1) (x ∷ xs) (omega arith) in
    rw whole at last.limits

-- some entries from a place on, without their bodies
pub metas_of-slice : (log : List Stored) (k most : ℕ) → metas_of (take (min (length (drop k log)) most) (drop k log)) ≡ take most (drop k (metas_of log))
metas_of-slice log k most =
    let turned : min (length (drop k log)) most ≡ min most (length (drop k log)) = omega arith in
    let bare = λ (s : Stored). s.entry in
    ap (λ n. map bare (take n (drop k log))) turned
    ∙ ap (map bare) (take_min most (drop k log))
    ∙ sym (take-map bare most (drop k log))
    ∙ ap (take most) (sym (drop-map bare k log))

-- one entry more of them
pub metas_of-more : (log : List Stored) (from n : ℕ) → 1 ≤ from → from - 1 + n < length log
    → metas_of (take (n + 1) (drop (from - 1) log)) ≡ metas_of (take n (drop (from - 1) log)) ++ (stored_at log (from + n)).entry ∷ []
metas_of-more log from n first within =
    let bare = λ (s : Stored). s.entry in
    let rest = drop (from - 1) log in
    let inside : n < length rest = omega (arith, within, length-drop (from - 1) log) in
    let place : from - 1 + n ≡ from + n - 1 = omega (arith, first) in
    let read : get_or rest n (blank_of 0) ≡ stored_at log (from + n) = get_or-drop (from - 1) log n (blank_of 0) ∙ ap (λ i. get_or log i (blank_of 0)) place in
    ap (map bare) (take_more rest n (blank_of 0) inside)
    ∙ map-append bare (take n rest) (get_or rest n (blank_of 0) ∷ [])
    ∙ ap (λ s. metas_of (take n rest) ++ s.entry ∷ []) read

-- a request is in two lists, one after the other, where it is in one of them
pub stands_in_both : (rid : Rid) (xs ys : List Stored) → stands_in rid (xs ++ ys) ≡ (stands_in rid xs || stands_in rid ys)
unfolding stands_in
stands_in_both rid xs ys = list_any-append (asks_as rid) xs ys

-- some of the entries come after the kept ones
pub partway-IsLog : (log entries : List Stored) (keep i : ℕ) → IsLog log → FollowEach (take keep log) entries → IsLog (take keep log ++ take i entries)
partway-IsLog log entries keep i is_log each =
    IsLog-append (take keep log) (take i entries) (IsLog-take keep log is_log) (FollowEach-take (take keep log) entries i each)

pub partway-terms : (t : ℕ) (log entries : List Stored) (keep i : ℕ) → All (λ (s : Stored). s.entry.term ≤ t) log → All (λ (s : Stored). s.entry.term ≤ t) entries
    → All (λ (s : Stored). s.entry.term ≤ t) (take keep log ++ take i entries)
partway-terms t log entries keep i old new =
    let P : Stored → Type 0 = λ s. s.entry.term ≤ t in
    All-append P (take keep log) (take i entries) (All-take P keep log old) (All-take P i entries new)

-- a place is found exactly where one of the items passes
pub is_some-position : {X : Type 0} (p : X → Bool) (xs : List X) → is_some (position p xs) ≡ list_any p xs
is_some-position p [] = refl
is_some-position p (x ∷ xs) =
    elim (cases_Bool (ltb (position_or_len p (x ∷ xs)) (length (x ∷ xs)))) [
      | inl t ↦
          let inside = ltb-true (position_or_len p (x ∷ xs)) (length (x ∷ xs)) t in
          rw t (sym (list_any_at p (x ∷ xs) (position_or_len p (x ∷ xs)) x inside (passes_at_first p (x ∷ xs) x inside)))
      | inr f ↦
          let past = ltb-false (position_or_len p (x ∷ xs)) (length (x ∷ xs)) f in
          rw f (sym (list_any_none p (x ∷ xs) (λ k d h. fails_before_first p (x ∷ xs) k d (omega arith))))
    ]
