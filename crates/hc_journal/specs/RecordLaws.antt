-- How the reading and the bytes of records fit together, for any bytes and any record.
use Rattle.std.specs.Prelude.{◌≡◌, ◌≢◌, ℕ, ◌<◌, ◌≤◌, ◌↔◌, List, [], ◌∷◌, ◌++◌, All, Ok, Err, length}
use Rattle.r2_base.specs.Numbers.{AreBytes}
use Rattle.r2_base.specs.Names.{FitsRid}
use Rattle.hc_log.specs.declared.record.Record.{Record}
use Rattle.hc_log.specs.Ranges.{IsInRange}
use Rattle.hc_journal.specs.declared.record_fault.RecordFault.TheVariants.{Version, Short, Range, Extra, Memory}
use Rattle.hc_journal.specs.Record.{SpellsRecord, record_bytes, record_version_1}
use Rattle.hc_journal.specs.RecordReading.{decode_record}

-- the numbers of the entries' request ids fit their fields; all other fields of a record in range fit theirs
abbrev pub FitsRecord : Record → Type 0
FitsRecord r = All (λ s. FitsRid s.entry.rid) r.entries

-- the bytes of a record in range read as it
abbrev pub SpellingIsRead : Type 0
SpellingIsRead = (r : Record) (bytes : List ℕ) → FitsRecord r → SpellsRecord r bytes → decode_record bytes ≡ Ok r

-- the bytes are those of a record in range, whose numbers fit their fields
pub record IsSpelled (r : Record) (bytes : List ℕ) : Type 0 where
  pub fits : FitsRecord r
  pub spells : SpellsRecord r bytes

-- what reads as a record is that record's bytes
abbrev pub WhatIsReadIsSpelled : Type 0
WhatIsReadIsSpelled = (r : Record) (bytes : List ℕ) → AreBytes bytes → decode_record bytes ≡ Ok r → IsSpelled r bytes

-- the bytes of a record in range with others after them read as Extra
abbrev pub BytesBehindAreExtra : Type 0
BytesBehindAreExtra =
    (r : Record) (b : ℕ) (rest : List ℕ) → FitsRecord r → IsInRange r → decode_record (record_bytes r ++ b ∷ rest) ≡ Err Extra

-- the bytes are those of a record in range with others after them
pub record HasRecordInFront (bytes : List ℕ) : Type 0 where
  pub front : Record
  pub fits : FitsRecord front
  pub in_range : IsInRange front
  pub byte : ℕ
  pub rest : List ℕ
  pub same : bytes ≡ record_bytes front ++ byte ∷ rest

-- nothing else reads as Extra
abbrev pub ExtraIsBehindARecord : Type 0
ExtraIsBehindARecord = (bytes : List ℕ) → AreBytes bytes → decode_record bytes ≡ Err Extra → HasRecordInFront bytes

-- no bytes read as the fault Memory
abbrev pub NoBytesWantMemory : Type 0
NoBytesWantMemory = (bytes : List ℕ) → decode_record bytes ≢ Err Memory

-- bytes that begin with another version
abbrev pub HasOtherVersion : List ℕ → Type 0
HasOtherVersion [] = ⊥
HasOtherVersion (v ∷ rest) = v ≢ record_version_1

-- the fault is Version exactly by the first byte
abbrev pub VersionIsTheFirstByte : Type 0
VersionIsTheFirstByte = (bytes : List ℕ) → (decode_record bytes ≡ Err Version) ↔ HasOtherVersion bytes

-- each proper prefix of the bytes of a record in range reads as Short
abbrev pub PrefixesAreShort : Type 0
PrefixesAreShort =
    (r : Record) (prefix rest : List ℕ) → FitsRecord r → IsInRange r → record_bytes r ≡ prefix ++ rest → length prefix < length (record_bytes r)
    → decode_record prefix ≡ Err Short

-- bytes of which a field is out of its range stay so, whatever follows them
abbrev pub RangeStays : Type 0
RangeStays = (bytes rest : List ℕ) → decode_record bytes ≡ Err Range → decode_record (bytes ++ rest) ≡ Err Range

-- the greatest number of bytes of a record of version 1: 19, and 64 entries of 18 bytes, with a length of 2 and a body of
-- 61,440 bytes each
abbrev pub most_record_bytes : ℕ
most_record_bytes = 3933459

-- no record in range has more
abbrev pub RecordsAreShort : Type 0
RecordsAreShort = (r : Record) → IsInRange r → length (record_bytes r) ≤ most_record_bytes
