-- What a recovery of a journal finds, and does to its file.
use Rattle.std.specs.Prelude.{◌≡◌, ℕ, ◌≤◌, List, length, take}
use Rattle.hc_disk.specs.Disk.{MayLeave, Moments, now_content, selected_file}
use Rattle.hc_log.specs.declared.record.Record.{Record}
use Rattle.hc_log.specs.Durable.{State, replay}
use Rattle.hc_file_journal.specs.File.{HasRow, IsJournal, row}
use Rattle.hc_file_journal.specs.FileJournal.{IsSettled, kept_records}

-- these are the first bytes of a file
abbrev pub AreFirst : List ℕ → List ℕ → Type 0
AreFirst bytes file = bytes ≡ take (length bytes) file

-- a stable file is a journal whose closed gate is at this offset, with any bytes after it
pub record EndsAt (end : ℕ) (t : Moments) : Type 0 where
  pub records : List Record
  pub has : HasRow records (now_content t)
  pub place : length (row records) ≡ end
  pub stable : (left : List ℕ) → MayLeave (selected_file t.now) left → left ≡ now_content t

-- a stable file has at most one byte
pub record IsBlank (t : Moments) : Type 0 where
  pub few : length (now_content t) ≤ 1
  pub stable : (left : List ℕ) → MayLeave (selected_file t.now) left → left ≡ now_content t

-- the journal of these records is at rest
pub record Recovers (end : ℕ) (t u : Moments) : Type 0 where
  pub settled : IsSettled end u
  pub journal : IsJournal (kept_records end u) (now_content t)

-- and their replay is this state
pub record IsRecovered (end : ℕ) (d : State) (t u : Moments) : Type 0 where
  pub settled : IsSettled end u
  pub journal : IsJournal (kept_records end u) (now_content t)
  pub replayed : d ≡ replay (kept_records end u)
