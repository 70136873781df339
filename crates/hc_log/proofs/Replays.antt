-- States and the records that lead from one to the next.
use Rattle.std.proofs.Common.{◌≡◌, ℕ, zero, suc, ◌+◌, ◌<◌, ◌≤◌, List, [], ◌∷◌, ◌++◌, length, take, get_or, ap, sym, ◌∙◌, refl, inl, inr, arith, add-one}
use Rattle.std.specs.List.{All}
use Rattle.std.proofs.lemmas.Bool.{cases_lt}
use Rattle.std.proofs.lemmas.List.{take_more, take_all, take_at, take-append-le, get_or_push, get_or_append_left, length_push}
use Rattle.std.proofs.lemmas.List.Elements.{All-append, All-take, All-weaker, All-nil}
use Rattle.std.proofs.lemmas.List.Sums.{fold_push}
use Rattle.hc_log.specs.declared.stored.Stored.{Stored}
use Rattle.hc_log.specs.declared.record.Record.{Record}
use Rattle.hc_log.specs.Durable.{State, begun, after, replay, IsNext, IsHistory, IsValid}
use Rattle.hc_log.proofs.Logs.{IsLog-append, IsLog-take, FollowEach-none}

-- one step keeps a state valid
pub IsValid-after : (d : State) (r : Record) → IsValid d → IsNext d r → IsValid (after d r)
IsValid-after d r valid next =
    let kept : All (λ (s : Stored). s.entry.term ≤ r.term) (take r.keep d.log) =
    All-take (λ (s : Stored). s.entry.term ≤ r.term) r.keep d.log
    (All-weaker (λ (s : Stored). s.entry.term ≤ d.term) (λ (s : Stored). s.entry.term ≤ r.term) (λ s below. omega (arith, below, next.term)) d.log valid.terms) in
    record {
      term = next.in_range.term_fits;
      vote = next.in_range.vote;
      unset = λ none. absurd (omega (arith, none, next.in_range.term_is_set));
      log = IsLog-append (take r.keep d.log) r.entries (IsLog-take r.keep d.log valid.log) next.entries;
      terms = All-append (λ (s : Stored). s.entry.term ≤ r.term) (take r.keep d.log) r.entries kept next.terms;
    }

-- nothing stored yet
pub IsValid-begun : IsValid begun
IsValid-begun =
    record {
      term = omega arith;
      vote = tt;
      unset = λ none. refl;
      log = FollowEach-none [];
      terms = All-nil (λ (s : Stored). s.entry.term ≤ 0);
    }

-- one record more
pub replay_push : (records : List Record) (r : Record) → replay (records ++ r ∷ []) ≡ after (replay records) r
unfolding replay
replay_push records r = fold_push after begun records r

pub replay_none : replay [] ≡ begun
unfolding replay
replay_none = refl

-- a list of records with one more that may be the next
pub IsHistory-push : (records : List Record) (r : Record) → IsHistory records → IsNext (replay records) r → IsHistory (records ++ r ∷ [])
IsHistory-push records r each last i d h =
    elim (cases_lt i (length records)) [
      | inl before ↦
          let front : take i (records ++ r ∷ []) ≡ take i records = take-append-le i records (r ∷ []) (omega arith) in
          let same : get_or (records ++ r ∷ []) i d ≡ get_or records i d = get_or_append_left records (r ∷ []) d i before in
          rw (front, same) (each i d before)
      | inr behind ↦
          let there : length records ≡ i = omega (arith, length_push records r) in
          let front : take i (records ++ r ∷ []) ≡ records = take_at records (r ∷ []) i there in
          let same : get_or (records ++ r ∷ []) i d ≡ r = get_or_push records r d i there in
          rw (front, same) last
    ]

-- the first records lead to a valid state
valid_front : (records : List Record) → IsHistory records → (n : ℕ) → IsValid (replay (take n records))
valid_front records each zero = rw replay_none IsValid-begun
valid_front [] each (suc n) = rw replay_none IsValid-begun
valid_front (x ∷ xs) each (suc n) =
    elim (cases_lt n (length (x ∷ xs))) [
      | inl before ↦
          let here = get_or (x ∷ xs) n x in
          let step : take (suc n) (x ∷ xs) ≡ take n (x ∷ xs) ++ here ∷ [] = ap (λ k. take k (x ∷ xs)) (sym (add-one n)) ∙ take_more (x ∷ xs) n x before in
          let valid = valid_front (x ∷ xs) each n in
          rw (step, replay_push (take n (x ∷ xs)) here) (IsValid-after (replay (take n (x ∷ xs))) here valid (each n x before))
      | inr behind ↦
          let all : take (suc n) (x ∷ xs) ≡ x ∷ xs = take_all (suc n) (x ∷ xs) (omega arith) in
          let some : take n (x ∷ xs) ≡ x ∷ xs = take_all n (x ∷ xs) behind in
          rw (all, ← some) (valid_front (x ∷ xs) each n)
    ]

-- and so do all
pub IsValid-replay : (records : List Record) → IsHistory records → IsValid (replay records)
IsValid-replay records each =
    let all : take (length records) records ≡ records = take_all (length records) records (omega arith) in
    rw all at (valid_front records each (length records))

-- the step of a loop over records
pub replay_step : (records : List Record) (i : ℕ) (r : Record) → i < length records → r ≡ get_or records i r → replay (take (i + 1) records) ≡ after (replay (take i records)) r
replay_step records i r h read =
    ap replay (take_more records i r h ∙ ap (λ (x : Record). take i records ++ x ∷ []) (sym read)) ∙ replay_push (take i records) r

pub history_step : (records : List Record) (i : ℕ) (r : Record) → i < length records → r ≡ get_or records i r → IsHistory (take i records) → IsNext (replay (take i records)) r
    → IsHistory (take (i + 1) records)
history_step records i r h read each next =
    let step : take (i + 1) records ≡ take i records ++ r ∷ [] = take_more records i r h ∙ ap (λ (x : Record). take i records ++ x ∷ []) (sym read) in
    rw step (IsHistory-push (take i records) r each next)

-- no records
pub history_none : IsHistory []
history_none i d h = absurd (omega arith)
