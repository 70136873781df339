-- The faults of fields and messages, and what a person reads of them.
use Rattle.std.specs.Prelude.{ℕ, Bool, true, false, List, codes}
use Rattle.hc_message.specs.declared.field_fault.FieldFault.{FieldFault}
use Rattle.hc_message.specs.declared.field_fault.FieldFault.TheVariants as field
use Rattle.hc_message.specs.declared.msg_fault.MsgFault.{MsgFault}
use Rattle.hc_message.specs.declared.msg_fault.MsgFault.TheVariants.{Short, Tag, Range, Extra, Memory}

-- the fault of a message in which a field has this fault
abbrev pub msg_fault_of : FieldFault → MsgFault
msg_fault_of field.Short = Short
msg_fault_of field.Range = Range

-- whether a fault is that memory ran out
abbrev pub is_memory : MsgFault → Bool
is_memory Short = false
is_memory Tag = false
is_memory Range = false
is_memory Extra = false
is_memory Memory = true

-- why bytes don't begin with a field
abbrev pub field_fault_text : FieldFault → List ℕ
field_fault_text field.Short = codes "the bytes end within a field"
field_fault_text field.Range = codes "a field is out of its range"

-- why bytes aren't a message
abbrev pub msg_fault_text : MsgFault → List ℕ
msg_fault_text Short = codes "the message is cut short"
msg_fault_text Tag = codes "no such message"
msg_fault_text Range = codes "a field of the message is out of its range"
msg_fault_text Extra = codes "bytes stand behind the message"
msg_fault_text Memory = codes "out of memory"
