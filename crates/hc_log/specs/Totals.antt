-- What is counted of a log's entries, so that one more can be tested.
use Rattle.std.specs.Prelude.{ℕ, ◌+◌, ◌-◌, cond, List, length}
use Rattle.r2_base.specs.Entry.{is_request}
use Rattle.hc_log.specs.declared.stored.Stored.{Stored}
use Rattle.hc_log.specs.declared.row.Row.{Row}
use Rattle.hc_log.specs.declared.totals.Totals.{Totals}
use Rattle.hc_log.specs.Log.{last_term, requests_of, body_bytes_of}

-- what is counted of a log
abbrev pub totals_of : List Stored → Totals
totals_of log = record { entries = length log; last_term = last_term log; requests = requests_of log; body_bytes = body_bytes_of log }

-- with one more entry after it
abbrev pub totals_with : Totals → Stored → Totals
totals_with t s =
    record {
      entries = t.entries + 1;
      last_term = s.entry.term;
      requests = t.requests + cond (is_request s.entry.kind) 1 0;
      body_bytes = t.body_bytes + length s.body;
    }

-- without the last entry, whose row is this, where the one before it is of this term
abbrev pub totals_without : Totals → Row → ℕ → Totals
totals_without t row term =
    record {
      entries = t.entries - 1;
      last_term = term;
      requests = t.requests - cond (is_request row.kind) 1 0;
      body_bytes = t.body_bytes - length row.body;
    }
