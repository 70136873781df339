-- The entries of a log: its rows, with the terms of its runs.
use Rattle.std.specs.Prelude.{ℕ, suc, List, [], ◌∷◌}
use Rattle.hc_log.specs.declared.stored.Stored.{Stored}
use Rattle.hc_log.specs.declared.row.Row.{Row}
use Rattle.hc_log.specs.declared.runs.Run.{Run}
use Rattle.hc_log.specs.Runs.{term_in}

-- an entry without its term
abbrev pub row_of : Stored → Row
row_of s = record { kind = s.entry.kind; rid = s.entry.rid; replier = s.entry.replier; body = s.body }

-- the entry of a term and a row
abbrev pub stored_of : ℕ → Row → Stored
stored_of term row = record { entry = record { term = term; kind = row.kind; rid = row.rid; replier = row.replier }; body = row.body }

-- the entries of rows of which the first stands at an index
abbrev pub entries_from : ℕ → List Run → List Row → List Stored
entries_from index runs [] = []
entries_from index runs (row ∷ rows) = stored_of (term_in runs index) row ∷ entries_from (suc index) runs rows

-- the entries of a log's rows, from index 1 on
unfoldable pub entries_of : List Run → List Row → List Stored
entries_of runs rows = entries_from 1 runs rows
