-- What contracts see of a journal over a disk.
use Rattle.std.specs.Prelude.{◌≡◌, ◌≢◌, ◌⊎◌, ℕ, ◌+◌, List, [], ◌∷◌, ◌++◌, length, take, get_or, All, Option, Some, None, ⊤}
use Rattle.hc_disk.specs.Disk.{MayLeave, Moments, now_content, selected_file}
use Rattle.hc_log.specs.declared.record.Record.{Record}
use Rattle.hc_log.specs.Durable.{State, replay, IsHistory}
use Rattle.hc_file_journal.specs.File.{IsJournal, ReadsBack, open_gate, records_of, row}

-- the records before a closed gate at this offset
abbrev pub kept_records : ℕ → Moments → List Record
kept_records end t = records_of (take end (now_content t))

-- the file ends with a closed gate at this offset, and a crash leaves it as it is
pub record IsAtRest (end : ℕ) (t : Moments) : Type 0 where
  pub long : length (now_content t) ≡ end + 1
  pub closed : get_or (now_content t) end 0 ≢ open_gate
  pub stable : (left : List ℕ) → MayLeave (selected_file t.now) left → left ≡ now_content t

-- and before that gate there is a row of records, of which each may be the next one
pub record IsSettled (end : ℕ) (t : Moments) : Type 0 where
  pub rest : IsAtRest end t
  pub same : take end (now_content t) ≡ row (kept_records end t)
  pub history : IsHistory (kept_records end t)
  pub read : All ReadsBack (kept_records end t)

-- the file is the journal of these records, and their replay is this state
pub record TellsRecords (records : List Record) (state : State) (file : List ℕ) : Type 0 where
  pub journal : IsJournal records file
  pub replayed : state ≡ replay records

-- the journal of these records, or of these and one more
abbrev pub IsWithOrWithout : List Record → Record → List ℕ → Type 0
IsWithOrWithout records r left = IsJournal records left ⊎ IsJournal (records ++ r ∷ []) left

-- a crash leaves the journal of these records, and nothing else
abbrev pub LeavesJournal : List Record → Moments → Type 0
LeavesJournal records t = (left : List ℕ) → MayLeave (selected_file t.now) left → IsJournal records left

-- what a crash might have left already, or what a read gave, or another journal of the same records
pub record IsSameJournal (file left : List ℕ) : Type 0 where
  pub records : List Record
  pub was : IsJournal records file
  pub is : IsJournal records left

abbrev pub StaysJournal : Moments → List ℕ → Type 0
StaysJournal t left = MayLeave (selected_file t.now) left ⊎ (left ≡ now_content t) ⊎ IsSameJournal (now_content t) left

-- where a disk reports its moments, the journal over it tells its records
abbrev pub TellsJournal : Option Moments → Option (List Record) → State → Type 0
TellsJournal None records state = ⊤
TellsJournal (Some t) None state = ⊥
TellsJournal (Some t) (Some records) state = TellsRecords records state (now_content t)
