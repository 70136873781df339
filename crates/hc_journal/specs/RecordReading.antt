-- What bytes read as: the record whose fields they are, from left to right, or the first fault that is met.
use Rattle.std.specs.Prelude.{ℕ, zero, suc, ◌==◌, if◌then◌else◌, List, [], ◌∷◌, length, take, drop, nat_lt, nat_le, Option, Some, None, Result, Ok, Err}
use Rattle.r2_base.specs.declared.entry.Kind.{Kind}
use Rattle.r2_base.specs.Entry.{is_request}
use Rattle.r2_base.specs.Limits.{greatest_member, greatest_number, most_body, most_entries}
use Rattle.hc_message.specs.declared.field_fault.FieldFault.{FieldFault}
use Rattle.hc_message.specs.declared.field_fault.FieldFault.TheVariants as field
use Rattle.hc_message.specs.Fields.{◌>>=◌, front_byte, front_entry, front_number, front_small, front_u16, within}
use Rattle.hc_log.specs.declared.record.Record.{Record}
use Rattle.hc_log.specs.declared.stored.Stored.{Stored}
use Rattle.hc_journal.specs.declared.record_head.RecordHead.{RecordHead}
use Rattle.hc_journal.specs.declared.record_fault.RecordFault.{RecordFault}
use Rattle.hc_journal.specs.declared.record_fault.RecordFault.TheVariants.{Version, Short, Extra}
use Rattle.hc_journal.specs.Record.{no_vote, record_version_1}
use Rattle.hc_journal.specs.RecordFaults.{record_fault_of}

-- a vote: a member, or none
unfoldable pub front_vote : List ℕ → Result (Option ℕ × List ℕ) FieldFault
front_vote bytes = do
  n ← front_byte bytes
  if n.0 == no_vote then Ok (None, n.1) else (if nat_le n.0 greatest_member then Ok (Some n.0, n.1) else Err field.Range)

-- the greatest number of bytes of the body of an entry of this kind
abbrev pub most_body_of : Kind → ℕ
most_body_of kind = if is_request kind then most_body else 0

-- so many bytes
unfoldable pub front_bytes : ℕ → List ℕ → Result (List ℕ × List ℕ) FieldFault
front_bytes len bytes = if nat_lt (length bytes) len then Err field.Short else Ok (take len bytes, drop len bytes)

-- the body of an entry of this kind, after its length
unfoldable pub front_body : Kind → List ℕ → Result (List ℕ × List ℕ) FieldFault
front_body kind bytes = do
  n ← front_u16 bytes
  len ← within 0 (most_body_of kind) n
  front_bytes len.0 len.1

-- an entry with its body
unfoldable pub front_stored : List ℕ → Result (Stored × List ℕ) FieldFault
front_stored bytes = do
  entry ← front_entry 1 greatest_number bytes
  body ← front_body entry.0.kind entry.1
  Ok (record { entry = entry.0; body = body.0 }, body.1)

-- so many entries with their bodies
unfoldable pub front_entries : ℕ → List ℕ → Result (List Stored × List ℕ) FieldFault
front_entries zero bytes = Ok ([], bytes)
front_entries (suc count) bytes = do
  first ← front_stored bytes
  others ← front_entries count first.1
  Ok (first.0 ∷ others.0, others.1)

-- what a record has before its entries, without the version
unfoldable pub front_head : List ℕ → Result (RecordHead × List ℕ) FieldFault
front_head bytes = do
  term ← front_number 1 greatest_number bytes
  vote ← front_vote term.1
  keep ← front_number 0 greatest_number vote.1
  count ← front_small 0 most_entries keep.1
  Ok (record { term = term.0; vote = vote.0; keep = keep.0; count = count.0 }, count.1)

-- the record of a head and entries
abbrev pub record_with : RecordHead → List Stored → Record
record_with h entries = record { term = h.term; vote = h.vote; keep = h.keep; entries = entries }

-- the fields of a record after its version, and the bytes after them
unfoldable pub front_fields : List ℕ → Result (Record × List ℕ) FieldFault
front_fields bytes = do
  head ← front_head bytes
  entries ← front_entries head.0.count head.1
  Ok (record_with head.0 entries.0, entries.1)

-- a record whose fields were read, where nothing follows them
abbrev pub ended : Result (Record × List ℕ) FieldFault → Result Record RecordFault
ended (Ok (r, [])) = Ok r
ended (Ok (r, b ∷ rest)) = Err Extra
ended (Err fault) = Err (record_fault_of fault)

-- what the bytes read as: a record, or the first fault from left to right
unfoldable pub decode_record : List ℕ → Result Record RecordFault
decode_record [] = Err Short
decode_record (v ∷ bytes) = if v == record_version_1 then ended (front_fields bytes) else Err Version
