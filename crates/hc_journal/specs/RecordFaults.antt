-- The faults of a record's bytes, and what a person reads of them.
use Rattle.std.specs.Prelude.{ℕ, Bool, true, false, List, codes}
use Rattle.hc_message.specs.declared.field_fault.FieldFault.{FieldFault}
use Rattle.hc_message.specs.declared.field_fault.FieldFault.TheVariants as field
use Rattle.hc_journal.specs.declared.record_fault.RecordFault.{RecordFault}
use Rattle.hc_journal.specs.declared.record_fault.RecordFault.TheVariants.{Version, Short, Range, Extra, Memory}

-- the fault of a record in which a field has this fault
abbrev pub record_fault_of : FieldFault → RecordFault
record_fault_of field.Short = Short
record_fault_of field.Range = Range

-- whether a fault is that memory ran out
abbrev pub is_memory : RecordFault → Bool
is_memory Version = false
is_memory Short = false
is_memory Range = false
is_memory Extra = false
is_memory Memory = true

-- why bytes aren't a record
abbrev pub record_fault_text : RecordFault → List ℕ
record_fault_text Version = codes "no such version of a record"
record_fault_text Short = codes "the record is cut short"
record_fault_text Range = codes "a field of the record is out of its range"
record_fault_text Extra = codes "bytes stand behind the record"
record_fault_text Memory = codes "out of memory"
