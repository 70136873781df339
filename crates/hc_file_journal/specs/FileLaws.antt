-- What holds of the files of journals.
use Rattle.std.specs.Prelude.{◌≡◌, ◌⊎◌, ℕ, List, [], ◌∷◌, ◌++◌}
use Rattle.hc_disk.specs.Disk.{Held, MayLeave, Moments, all_moments, now_content, selected_file}
use Rattle.hc_disk.specs.Runs.{LeavesOnly, WasOnly}
use Rattle.hc_log.specs.declared.record.Record.{Record}
use Rattle.hc_log.specs.Durable.{State, replay}
use Rattle.hc_file_journal.specs.File.{IsDamaged, IsJournal}
use Rattle.hc_file_journal.specs.FileJournal.{IsWithOrWithout, LeavesJournal, StaysJournal, TellsRecords}

-- a file is the journal of one list of records
abbrev pub AFileIsOneJournal : Type 0
AFileIsOneJournal = (file : List ℕ) (records others : List Record) → IsJournal records file → IsJournal others file → records ≡ others

-- a journal isn't damaged anywhere
abbrev pub AJournalIsNotDamaged : Type 0
AJournalIsNotDamaged = (file : List ℕ) (records : List Record) (at : ℕ) → IsJournal records file → IsDamaged at file → ⊥

-- a moment from a stated one on
pub record IsSince (t u : Moments) (held : Held) : Type 0 where
  pub earlier : List Held
  pub later : List Held
  pub same : all_moments u ≡ t.past ++ (earlier ++ held ∷ later)

-- a disk that starts with this file: it is stable
pub record StartsWith (file : List ℕ) (t : Moments) : Type 0 where
  pub same : now_content t ≡ file
  pub stable : (left : List ℕ) → MayLeave (selected_file t.now) left → left ≡ file

-- what a recovery from a disk finds is the replay of these records, with one more or without; and what a crash within it leaves is
-- their journal again
pub record IsFoundAgain (records : List Record) (r : Record) (t : Moments) : Type 0 where
  pub undamaged : (at : ℕ) → IsDamaged at (now_content t) → ⊥
  pub found : (others : List Record) (d : State) → TellsRecords others d (now_content t) → (d ≡ replay records) ⊎ (d ≡ replay (records ++ r ∷ []))
  pub again : (left : List ℕ) → StaysJournal t left → IsWithOrWithout records r left

-- where a crash leaves the journal of these records, and at each moment since then that journal, with one more record or without,
-- what a crash at any moment leaves is recovered as that
abbrev pub ACrashIsRecovered : Type 0
ACrashIsRecovered =
    (records : List Record) (r : Record) (t u : Moments) (held : Held) (left : List ℕ) (after : Moments) → LeavesJournal records t → WasOnly t u (LeavesOnly (IsWithOrWithout records r) t.now)
    → IsSince t u held → MayLeave (held.files t.now.selected) left → StartsWith left after → IsFoundAgain records r after
