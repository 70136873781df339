-- What the entries of a log count, and what one more adds.
use Rattle.std.proofs.Common.{◌≡◌, ℕ, ◌+◌, ◌-◌, ◌<◌, ◌≤◌, ◌^◌, cond, List, [], ◌∷◌, ◌++◌, length, take, drop, get_or, ap, ◌∙◌, refl, arith, take-append-drop, length-append}
use Rattle.std.specs.Prelude.{false, ◌==◌}
use Rattle.std.proofs.lemmas.List.{get_or_push, length_push}
use Rattle.std.proofs.lemmas.List.Sums.{sum_by-append}
use Rattle.r2_base.specs.Entry.{is_request}
use Rattle.hc_log.specs.declared.stored.Stored.{Stored}
use Rattle.hc_log.specs.declared.row.Row.{Row}
use Rattle.hc_log.specs.declared.totals.Totals.{Totals}
use Rattle.hc_log.specs.Log.{blank_of, last_term, requests_of, body_bytes_of, IsWithinLimits}
use Rattle.hc_log.specs.Rows.{stored_of}
use Rattle.hc_log.specs.Totals.{totals_of, totals_with, totals_without}

-- two lists of entries, one after the other
pub requests_of-append : (xs ys : List Stored) → requests_of (xs ++ ys) ≡ requests_of xs + requests_of ys
unfolding requests_of
requests_of-append xs ys = sum_by-append (λ s. cond (is_request s.entry.kind) 1 0) xs ys

pub body_bytes_of-append : (xs ys : List Stored) → body_bytes_of (xs ++ ys) ≡ body_bytes_of xs + body_bytes_of ys
unfolding body_bytes_of
body_bytes_of-append xs ys = sum_by-append (λ s. length s.body) xs ys

-- one entry alone
requests_of-one : (s : Stored) → requests_of (s ∷ []) ≡ cond (is_request s.entry.kind) 1 0
unfolding requests_of
requests_of-one s = omega arith

body_bytes_of-one : (s : Stored) → body_bytes_of (s ∷ []) ≡ length s.body
unfolding body_bytes_of
body_bytes_of-one s = omega arith

-- one entry more
pub requests_of_more : (log : List Stored) (s : Stored) → requests_of (log ++ s ∷ []) ≡ requests_of log + cond (is_request s.entry.kind) 1 0
requests_of_more log s = omega (arith, requests_of-append log (s ∷ []), requests_of-one s)

pub body_bytes_of_more : (log : List Stored) (s : Stored) → body_bytes_of (log ++ s ∷ []) ≡ body_bytes_of log + length s.body
body_bytes_of_more log s = omega (arith, body_bytes_of-append log (s ∷ []), body_bytes_of-one s)

-- the last entry of a log is the one that was put last
pub last_term_more : (log : List Stored) (s : Stored) → last_term (log ++ s ∷ []) ≡ s.entry.term
last_term_more log s =
    let long : length (log ++ s ∷ []) ≡ length log + 1 = length_push log s in
    let place : length log + 1 - 1 ≡ length log = omega arith in
    let read : get_or (log ++ s ∷ []) (length log) (blank_of 0) ≡ s = get_or_push log s (blank_of 0) (length log) refl in
    let some : (length log + 1 == 0) ≡ false = grind arith in
    rw (long, some, place, read) refl

-- what is counted with one entry more
pub totals_of_more : (log : List Stored) (s : Stored) → totals_of (log ++ s ∷ []) ≡ totals_with (totals_of log) s
totals_of_more log s =
    let entries = length_push log s in
    let term = last_term_more log s in
    let requests = requests_of_more log s in
    let bytes = body_bytes_of_more log s in
    cc

-- nothing is counted of nothing
pub totals_of_none : totals_of [] ≡ record { entries = 0; last_term = 0; requests = 0; body_bytes = 0 }
unfolding requests_of body_bytes_of
totals_of_none = refl

-- a prefix of a log is within the limits where the log is
pub IsWithinLimits-front : (xs ys : List Stored) → IsWithinLimits (xs ++ ys) → IsWithinLimits xs
IsWithinLimits-front xs ys within =
    record {
      entries = omega (arith, length-append xs ys, within.entries);
      requests = omega (arith, requests_of-append xs ys, within.requests);
      body_bytes = omega (arith, body_bytes_of-append xs ys, within.body_bytes);
    }

pub IsWithinLimits-take : (n : ℕ) (log : List Stored) → IsWithinLimits log → IsWithinLimits (take n log)
IsWithinLimits-take n log within = IsWithinLimits-front (take n log) (drop n log) (rw (take-append-drop n log) within)

-- within the limits the next entry can be counted
pub record CanCount (t : Totals) (s : Stored) : Type 0 where
  pub entries : t.entries + 1 < 2 ^ 64
  pub requests : t.requests + 1 < 2 ^ 64
  pub body_bytes : t.body_bytes + length s.body < 2 ^ 64

-- nothing is within the limits
pub IsWithinLimits-none : IsWithinLimits []
unfolding requests_of body_bytes_of
IsWithinLimits-none = record { entries = omega arith; requests = omega arith; body_bytes = omega arith }

-- an entry that a log may take can be counted
pub can_count_more : (log : List Stored) (s : Stored) → IsWithinLimits (log ++ s ∷ []) → CanCount (totals_of log) s
can_count_more log s more =
    let front = IsWithinLimits-front log (s ∷ []) more in
    record {
      entries = omega (arith, front.entries);
      requests = omega (arith, front.requests);
      body_bytes = omega (arith, more.body_bytes, body_bytes_of_more log s);
    }

-- the last entry of a log can be taken from what is counted of it
pub record CanTake (t : Totals) (row : Row) : Type 0 where
  pub entries : 1 ≤ t.entries
  pub requests : cond (is_request row.kind) 1 0 ≤ t.requests
  pub body_bytes : length row.body ≤ t.body_bytes

pub can_take_last : (log : List Stored) (row : Row) (t : Totals) (term : ℕ) → t ≡ totals_of (log ++ stored_of term row ∷ []) → CanTake t row
can_take_last log row t term of =
    let counted : t ≡ totals_with (totals_of log) (stored_of term row) = of ∙ totals_of_more log (stored_of term row) in
    rw counted (record { entries = omega arith; requests = omega arith; body_bytes = omega arith })

-- and what is left is counted of the others
pub totals_of_less : (log : List Stored) (row : Row) (t : Totals) (term before : ℕ) → t ≡ totals_of (log ++ stored_of term row ∷ []) → before ≡ last_term log → totals_without t row before ≡ totals_of log
totals_of_less log row t term before of last =
    let counted : t ≡ totals_with (totals_of log) (stored_of term row) = of ∙ totals_of_more log (stored_of term row) in
    let entries : length log + 1 - 1 ≡ length log = omega arith in
    let requests : requests_of log + cond (is_request row.kind) 1 0 - cond (is_request row.kind) 1 0 ≡ requests_of log = omega arith in
    let bytes : body_bytes_of log + length row.body - length row.body ≡ body_bytes_of log = omega arith in
    ap (λ u. totals_without u row before) counted ∙ (λ k. record { entries = entries k; last_term = last k; requests = requests k; body_bytes = bytes k })
