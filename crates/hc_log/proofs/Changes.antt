-- The record of what changed between two states.
use Rattle.std.proofs.Common.{◌≡◌, ℕ, ◌≤◌, List, ◌++◌, take, drop, ap, ◌∙◌, arith, take-append-drop}
use Rattle.std.specs.List.{All}
use Rattle.std.proofs.lemmas.List.Elements.{All-drop}
use Rattle.hc_log.specs.declared.stored.Stored.{Stored}
use Rattle.hc_log.specs.Ranges.{IsStored}
use Rattle.hc_log.specs.Log.{IsLog}
use Rattle.hc_log.specs.Durable.{State, after, IsNext, IsValid}
use Rattle.hc_log.specs.Laws.{MayComeBehind, record_of}
use Rattle.hc_log.proofs.Formed.{FollowEach-from_log}
use Rattle.hc_log.proofs.Logs.{IsLog-limits}

-- the kept entries and those after them are the whole log
whole_log : (d e : State) (keep : ℕ) → MayComeBehind d e keep → take keep d.log ++ drop keep e.log ≡ e.log
whole_log d e keep may = ap (λ (xs : List Stored). xs ++ drop keep e.log) may.front ∙ take-append-drop keep e.log

next_record : (d e : State) (keep : ℕ) → IsValid d → IsValid e → MayComeBehind d e keep → IsNext d (record_of e keep)
next_record d e keep valid valid_too may =
    let limits = IsLog-limits d.log valid.log in
    let stored : All IsStored e.log = λ i s h. (valid_too.log i s h).stored in
    let whole : IsLog (take keep d.log ++ drop keep e.log) = rw (whole_log d e keep may) valid_too.log in
    record {
      in_range =
          record {
            term_is_set = may.is_set;
            term_fits = valid_too.term;
            vote = valid_too.vote;
            keep = omega (arith, may.within, limits.entries);
            count = may.count;
            entries = All-drop IsStored keep e.log stored;
          };
      term = may.term;
      vote = may.vote;
      keep = may.within;
      entries = FollowEach-from_log (take keep d.log) (drop keep e.log) whole;
      terms = All-drop (λ (s : Stored). s.entry.term ≤ e.term) keep e.log valid_too.terms;
    }

leads_there : (d e : State) (keep : ℕ) → MayComeBehind d e keep → after d (record_of e keep) ≡ e
leads_there d e keep may = λ k. record { term = e.term; vote = e.vote; log = whole_log d e keep may k }

-- what changed is a record that may be the next one, and it leads there
pub changes_lead_there : (d e : State) (keep : ℕ) → IsValid d → IsValid e → MayComeBehind d e keep
    → IsNext d (record_of e keep) × (after d (record_of e keep) ≡ e)
changes_lead_there d e keep valid valid_too may = (next_record d e keep valid valid_too may, leads_there d e keep may)
