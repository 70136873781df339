-- What the tests of one entry, and of several, come to.
use Rattle.std.proofs.Common.{◌≡◌, ◌≤◌, ◌<◌, ◌+◌, ℕ, List, [], ◌∷◌, ◌++◌, length, take, get_or, ap, sym, ◌∙◌, subst, append_assoc}
use Rattle.std.specs.Prelude.{false, ◌&&◌}
use Rattle.std.proofs.lemmas.List.{take_more}
use Rattle.r2_base.specs.Entry.{is_request}
use Rattle.hc_log.specs.declared.stored.Stored.{Stored}
use Rattle.hc_log.specs.declared.totals.Totals.{Totals}
use Rattle.r2_base.specs.Limits.{greatest_number}
use Rattle.hc_log.specs.Ranges.{IsStored, most_body_bytes, most_requests}
use Rattle.hc_log.specs.Log.{IsWithinLimits, MayFollow, FollowEach, stands_in}
use Rattle.hc_log.specs.Totals.{totals_of, totals_with}
use Rattle.hc_log.proofs.Counting.{totals_of_more}
use Rattle.hc_log.proofs.Logs.{FollowEach-push}

-- the counts are within the limits
abbrev pub AreWithin : Totals → Type 0
AreWithin t = (t.entries ≤ greatest_number) × (t.requests ≤ most_requests) × (t.body_bytes ≤ most_body_bytes)

-- and so is the log that they are of
pub within_from_counts : (log : List Stored) → AreWithin (totals_of log) → IsWithinLimits log
within_from_counts log within = record { entries = within.0; requests = within.1; body_bytes = within.2 }

pub counts_from_within : (log : List Stored) → IsWithinLimits log → AreWithin (totals_of log)
counts_from_within log within = (within.entries, within.requests, within.body_bytes)

-- the counts with one entry more
pub counted_more : (log : List Stored) (s : Stored) (t u : Totals) → t ≡ totals_of log → u ≡ totals_with t s → u ≡ totals_of (log ++ s ∷ [])
counted_more log s t u of with = with ∙ ap (λ x. totals_with x s) of ∙ sym (totals_of_more log s)

-- the tests of an entry passed
pub may_follow-passed : (log : List Stored) (s : Stored) (t u : Totals) → t ≡ totals_of log → u ≡ totals_with t s → IsStored s → t.last_term ≤ s.entry.term
    → (is_request s.entry.kind && stands_in s.entry.rid log) ≡ false → AreWithin u → MayFollow log s
may_follow-passed log s t u of with stored term new within =
    let counted = counted_more log s t u of with in
    record {
      stored = stored;
      term = rw of at term;
      is_new = λ asks. rw asks at new;
      limits = within_from_counts (log ++ s ∷ []) (subst AreWithin counted within);
    }

-- an entry that may follow passes the last test
pub may_follow-within : (log : List Stored) (s : Stored) (t u : Totals) → t ≡ totals_of log → u ≡ totals_with t s → MayFollow log s → AreWithin u
may_follow-within log s t u of with may =
    let counted = counted_more log s t u of with in
    subst AreWithin (sym counted) (counts_from_within (log ++ s ∷ []) may.limits)

-- one entry more of a record
pub joined_more : (kept entries : List Stored) (i : ℕ) (s : Stored) → i < length entries → s ≡ get_or entries i s
    → kept ++ take (i + 1) entries ≡ (kept ++ take i entries) ++ s ∷ []
joined_more kept entries i s h read =
    ap (λ (xs : List Stored). kept ++ xs) (take_more entries i s h ∙ ap (λ (x : Stored). take i entries ++ x ∷ []) (sym read))
    ∙ sym (append_assoc kept (take i entries) (s ∷ []))

pub follow_more : (kept entries : List Stored) (i : ℕ) (s : Stored) → i < length entries → s ≡ get_or entries i s
    → FollowEach kept (take i entries) → MayFollow (kept ++ take i entries) s → FollowEach kept (take (i + 1) entries)
follow_more kept entries i s h read each may =
    let step : take (i + 1) entries ≡ take i entries ++ s ∷ [] = take_more entries i s h ∙ ap (λ (x : Stored). take i entries ++ x ∷ []) (sym read) in
    rw step (FollowEach-push kept (take i entries) s each may)
