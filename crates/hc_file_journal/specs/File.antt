-- The file of a journal: a row of records, each after an open gate, then a closed gate, then any bytes.
use Rattle.std.specs.Prelude.{◌≡◌, ◌≢◌, ◌⊎◌, ℕ, zero, suc, ◌+◌, ◌<◌, ◌≤◌, nat_lt, if◌then◌else◌, List, [], ◌∷◌, ◌++◌, length, take, drop, All, Option, Some, None, Result, Ok, Err}
use Rattle.byteorder.specs.Endian.{big_number}
use Rattle.r2_base.specs.Numbers.{u32_bytes}
use Rattle.hc_log.specs.declared.record.Record.{Record}
use Rattle.hc_log.specs.Durable.{replay, IsHistory, IsNext}
use Rattle.hc_journal.specs.declared.record_fault.RecordFault.{RecordFault}
use Rattle.hc_journal.specs.Record.{record_bytes}
use Rattle.hc_journal.specs.RecordReading.{decode_record}

-- the gate before a record; each other byte is a closed gate
abbrev pub open_gate : ℕ
open_gate = 0x5A

-- the length of a record's bytes, and these
unfoldable pub framed : Record → List ℕ
framed r = u32_bytes (length (record_bytes r)) ++ record_bytes r

-- records, each after an open gate
abbrev pub row : List Record → List ℕ
row [] = []
row (r ∷ records) = open_gate ∷ (framed r ++ row records)

-- the bytes of a record read as it
abbrev pub ReadsBack : Record → Type 0
ReadsBack r = decode_record (record_bytes r) ≡ Ok r

-- a file has a row of these records, of which each may be the next one, then a closed gate, then any bytes
pub record HasRow (records : List Record) (file : List ℕ) : Type 0 where
  pub history : IsHistory records
  pub read : All ReadsBack records
  pub gate : ℕ
  pub closed : gate ≢ open_gate
  pub rest : List ℕ
  pub same : file ≡ row records ++ gate ∷ rest

-- a file is the journal of these records: of none where it has at most one byte
abbrev pub IsJournal : List Record → List ℕ → Type 0
IsJournal records file = ((length file ≤ 1) × (records ≡ [])) ⊎ HasRow records file

-- after a row of these records there is no gate, or an open gate that isn't before a record that may be the next one
pub record IsWrong (records : List Record) (rest : List ℕ) : Type 0 where
  pub no_gate : (gate : ℕ) (after : List ℕ) → rest ≡ gate ∷ after → gate ≡ open_gate
  pub no_record : (r : Record) (after : List ℕ) → IsNext (replay records) r → ReadsBack r → rest ≢ open_gate ∷ (framed r ++ after)

-- a file isn't a journal, and this is the offset of the first gate at which that shows
pub record IsDamaged (at : ℕ) (file : List ℕ) : Type 0 where
  pub long : 1 < length file
  pub records : List Record
  pub history : IsHistory records
  pub read : All ReadsBack records
  pub rest : List ℕ
  pub same : file ≡ row records ++ rest
  pub place : at ≡ length (row records)
  pub wrong : IsWrong records rest

-- the number in the first four bytes
abbrev pub u32_at : List ℕ → ℕ
u32_at bytes = big_number 4 bytes

-- a record that was read, with the bytes after it
abbrev pub read_with : List ℕ → Result Record RecordFault → Option (Record × List ℕ)
read_with rest (Ok r) = Some (r, rest)
read_with rest (Err fault) = None

-- the record whose length and bytes are first, with the bytes after it
unfoldable pub record_front : List ℕ → Option (Record × List ℕ)
record_front bytes =
    if nat_lt (length bytes) (4 + u32_at bytes) then None else read_with (drop (4 + u32_at bytes) bytes) (decode_record (take (u32_at bytes) (drop 4 bytes)))

abbrev pub with_more : (List ℕ → List Record) → Option (Record × List ℕ) → List Record
with_more more None = []
with_more more (Some (r, rest)) = r ∷ more rest

abbrev pub records_within : ℕ → List ℕ → List Record
records_within zero bytes = []
records_within (suc n) [] = []
records_within (suc n) (gate ∷ rest) = with_more (records_within n) (record_front rest)

-- the records of a row
unfoldable pub records_of : List ℕ → List Record
records_of bytes = records_within (length bytes) bytes
