-- A log with one entry more at its end.
use Rattle.std.proofs.Common.{◌≡◌, ◌<◌, ◌≤◌, false, List, [], ◌∷◌, ◌++◌, length, take, refl, sym, ◌∙◌, arith}
use Rattle.std.proofs.lemmas.List.{length_push, take-append-le}
use Rattle.std.proofs.lemmas.List.Elements.{All-push}
use Rattle.r2_base.specs.Limits.{greatest_number}
use Rattle.r2_base.specs.declared.rid.Rid.{Rid}
use Rattle.hc_log.specs.declared.stored.Stored.{Stored}
use Rattle.hc_log.specs.Log.{asks_as, blank_of, stands_in, MayFollow}
use Rattle.hc_log.specs.Durable.{State, IsValid}
use Rattle.hc_log.proofs.Counting.{body_bytes_of_more, requests_of_more}
use Rattle.hc_log.proofs.Logs.{IsLog-limits, IsLog-push, stands_in_both}
use Rattle.hc_member.proofs.Sends.{last_term-most}

-- a valid state stays one
pub valid-push : (d : State) (s : Stored) → IsValid d → MayFollow d.log s → s.entry.term ≤ d.term
    → IsValid (record { term = d.term; vote = d.vote; log = d.log ++ s ∷ [] })
valid-push d s valid may within =
    record {
      term = valid.term;
      vote = valid.vote;
      unset = valid.unset;
      log = IsLog-push d.log s valid.log may;
      terms = All-push (λ (x : Stored). x.entry.term ≤ d.term) d.log s valid.terms within;
    }

-- the blank entry of its term may follow
pub blank-follows : (d : State) → IsValid d → 1 ≤ d.term → length d.log < greatest_number → MayFollow d.log (blank_of d.term)
blank-follows d valid is_set short =
    let limits = IsLog-limits d.log valid.log in
    let last = last_term-most d.term d.log valid.terms in
    let long = length_push d.log (blank_of d.term) in
    let asks = requests_of_more d.log (blank_of d.term) in
    let bytes = body_bytes_of_more d.log (blank_of d.term) in
    record {
      stored = record { term_is_set = is_set; term_fits = valid.term; replier = (refl, refl); body = refl };
      term = omega (arith, last);
      is_new = λ asks. cc;
      limits = record { entries = omega (arith, long, short); requests = omega (arith, asks, limits.requests); body_bytes = omega (arith, bytes, limits.body_bytes) };
    }

-- a request that isn't in a log isn't in it with one entry more that isn't its own
pub stands-push : (rid : Rid) (log : List Stored) (s : Stored) → stands_in rid log ≡ false → asks_as rid s ≡ false → stands_in rid (log ++ s ∷ []) ≡ false
unfolding stands_in
stands-push rid log s apart other = stands_in_both rid log (s ∷ []) ∙ rw (apart, other) refl

-- the log is a prefix of the longer one
pub front-push : (log : List Stored) (s : Stored) → take (length log) log ≡ take (length log) (log ++ s ∷ [])
front-push log s = sym (take-append-le (length log) log (s ∷ []) (omega arith))
