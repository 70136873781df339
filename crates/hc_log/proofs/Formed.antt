-- A log by its steps, and as a whole.
use Rattle.std.proofs.Common.{◌≡◌, ℕ, zero, suc, ◌+◌, ◌<◌, ◌≤◌, List, ◌++◌, length, take, get_or, ◌-◌, ap, sym, ◌∙◌, refl, inl, inr, arith, add-one, length-append}
use Rattle.std.specs.Prelude.{true, false, ◌==◌}
use Rattle.std.proofs.Math.Seq.{take-append-add}
use Rattle.std.proofs.lemmas.Bool.{cases_Bool, and_parts, false≢true}
use Rattle.std.proofs.lemmas.List.{take_more, length-take-le, get_or-take, get_or_default, get_or-append-add}
use Rattle.std.proofs.lemmas.List.Folds.{list_any_none, list_any_at}
use Rattle.std.proofs.lemmas.List.Sorted.{IsNonDecreasingBy-from_all_adjacent}
use Rattle.r2_base.specs.declared.rid.Rid.{Rid}
use Rattle.r2_base.specs.Entry.{is_request}
use Rattle.r2_base.specs.Names.{same_rid}
use Rattle.r2_base.proofs.SameNames.{same_rid-true, same_rid-same}
use Rattle.hc_log.specs.declared.stored.Stored.{Stored}
use Rattle.hc_log.specs.Log.{blank_of, term_at, last_term, asks_as, stands_in, FollowEach, IsLog}
use Rattle.hc_log.specs.Laws.{AreApart, IsFormed}
use Rattle.hc_log.proofs.Counting.{IsWithinLimits-take, last_term_more}
use Rattle.hc_log.proofs.Logs.{IsLog-limits}

-- the term of the last of the first entries
last_term-take : (log : List Stored) (i : ℕ) (d : Stored) → i < length log → last_term (take (i + 1) log) ≡ (get_or log i d).entry.term
last_term-take log i d h =
    ap last_term (take_more log i d h) ∙ last_term_more (take i log) (get_or log i d)

-- it is the term at their number
pub last_term-first : (log : List Stored) (n : ℕ) → n ≤ length log → last_term (take n log) ≡ term_at log n
last_term-first log zero h = refl
last_term-first log (suc k) h =
    let step : take (suc k) log ≡ take (k + 1) log = ap (λ n. take n log) (sym (add-one k)) in
    let some : (suc k == 0) ≡ false = grind arith in
    let place : suc k - 1 ≡ k = omega arith in
    let there : term_at log (suc k) ≡ (get_or log k (blank_of 0)).entry.term = rw (some, place) refl in
    ap last_term step ∙ last_term-take log k (blank_of 0) h ∙ sym there

-- a request that a log has at a place
stands_at : (log : List Stored) (j i : ℕ) (d : Stored) (rid : Rid) → j < i → i ≤ length log → is_request (get_or log j d).entry.kind ≡ true → (get_or log j d).entry.rid ≡ rid
    → stands_in rid (take i log) ≡ true
unfolding stands_in
stands_at log j i d rid before within asks named =
    let same : get_or (take i log) j d ≡ get_or log j d = get_or-take i log j d before in
    let inside : j < length (take i log) = rw length-take-le before in
    let passes : asks_as rid (get_or log j d) ≡ true = rw (asks, named) (same_rid-same rid) in
    list_any_at (asks_as rid) (take i log) j d inside (rw same passes)

-- a request that is at no place of the first entries
stands_nowhere : (log : List Stored) (i : ℕ) (rid : Rid) → i ≤ length log → ((j : ℕ) (d : Stored) → j < i → asks_as rid (get_or log j d) ≡ false) → stands_in rid (take i log) ≡ false
unfolding stands_in
stands_nowhere log i rid within fails =
    list_any_none (asks_as rid) (take i log) (λ j d h.
    let before : j < i = (let n = length-take-le i log within in omega (arith, n)) in
    rw (get_or-take i log j d before) (fails j d before))

-- an entry that is apart from a request isn't found by its id
apart-fails : (a b : Stored) → AreApart a b → is_request b.entry.kind ≡ true → asks_as b.entry.rid a ≡ false
apart-fails a b apart asks =
    elim (cases_Bool (asks_as b.entry.rid a)) [
      | inr f ↦ f
      | inl t ↦
          let parts = and_parts (is_request a.entry.kind) (same_rid b.entry.rid a.entry.rid) t in
          absurd (apart parts.0 asks (sym (same_rid-true b.entry.rid a.entry.rid parts.1)))
    ]

-- each step gives the whole
pub IsFormed-from_steps : (log : List Stored) → IsLog log → IsFormed log
IsFormed-from_steps log each =
    record {
      stored = λ i d h. (each i d h).stored;
      terms = IsNonDecreasingBy-from_all_adjacent (λ (s : Stored). s.entry.term) log (λ i d h.
          let next = each (i + 1) d h in
          let below : last_term (take (i + 1) log) ≤ (get_or log (i + 1) d).entry.term = next.term in
          omega (arith, below, last_term-take log i d (omega arith)));
      requests = λ j i d before within asks asks_too same.
          let new = (each i d within).is_new asks_too in
          false≢true (sym new ∙ stands_at log j i d (get_or log i d).entry.rid before (omega arith) asks same);
      limits = IsLog-limits log each;
    }

-- the whole gives each step
pub steps-from_IsFormed : (log : List Stored) → IsFormed log → IsLog log
steps-from_IsFormed log formed i d h =
    record {
      stored = formed.stored i d h;
      term = rises log i d h formed;
      is_new = λ asks. stands_nowhere log i (get_or log i d).entry.rid (omega arith) (λ j e before.
          let read : get_or log j e ≡ get_or log j d = get_or_default log j e d (omega arith) in
          rw read (apart-fails (get_or log j d) (get_or log i d) (formed.requests j i d before h) asks));
      limits = rw (sym (take_more log i d h)) (IsWithinLimits-take (i + 1) log formed.limits);
    }
  where
    rises : (log : List Stored) (i : ℕ) (d : Stored) → i < length log → IsFormed log → last_term (take i log) ≤ (get_or log i d).entry.term
    rises log zero d h formed = omega arith
    rises log (suc k) d h formed =
        let step : take (suc k) log ≡ take (k + 1) log = ap (λ n. take n log) (sym (add-one k)) in
        let last = last_term-take log k d (omega arith) in
        let below = formed.terms k (suc k) d (omega arith) h in
        rw (step, last) below

-- what makes a log longer may follow it
pub FollowEach-from_log : (log entries : List Stored) → IsLog (log ++ entries) → FollowEach log entries
FollowEach-from_log log entries each i d h =
    let there = each (length log + i) d (omega (arith, length-append log entries)) in
    rw (take-append-add log entries i, get_or-append-add log entries i d) at there
