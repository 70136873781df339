-- What the reading of a row of records finds.
use Rattle.std.specs.Prelude.{◌≡◌, ◌≢◌, ℕ, ◌+◌, List, ◌∷◌, ◌++◌, length, All}
use Rattle.hc_log.specs.declared.record.Record.{Record}
use Rattle.hc_log.specs.Durable.{State, after, replay, IsHistory, IsNext}
use Rattle.hc_file_journal.specs.File.{ReadsBack, framed, open_gate, row}

-- bytes begin with a record that reads back and may be the next one of a state, which leads to another state
pub record TookRecord (bytes rest : List ℕ) (old new : State) : Type 0 where
  pub taken : Record
  pub same : bytes ≡ framed taken ++ rest
  pub read : ReadsBack taken
  pub next : IsNext old taken
  pub leads : new ≡ after old taken

-- bytes don't begin with one that may be the next one
abbrev pub HasNoNext : State → List ℕ → Type 0
HasNoNext d bytes = (r : Record) (rest : List ℕ) → IsNext d r → ReadsBack r → bytes ≢ framed r ++ rest

-- bytes have a row of records first, each of which may be the next one, and lead to this state
pub record IsRead (bytes rest : List ℕ) (d : State) : Type 0 where
  pub records : List Record
  pub history : IsHistory records
  pub read : All ReadsBack records
  pub same : bytes ≡ row records ++ rest
  pub leads : d ≡ replay records

-- and a closed gate is after that row, at this offset
pub record EndsRow (end : ℕ) (d : State) (bytes : List ℕ) : Type 0 where
  pub gate : ℕ
  pub closed : gate ≢ open_gate
  pub rest : List ℕ
  pub reads : IsRead bytes (gate ∷ rest) d
  pub place : length bytes ≡ end + length (gate ∷ rest)
