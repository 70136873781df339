-- What the first fields of bytes read as: each gives its value and the bytes after it, or its fault.
use Rattle.std.specs.Prelude.{◌≡◌, ℕ, ◌==◌, ◌&&◌, Bool, ◌||◌, if◌then◌else◌, List, [], ◌∷◌, length, drop, nat_le, nat_lt, Result, Ok, Err}
use Rattle.byteorder.specs.Endian.{big_number}
use Rattle.r2_base.specs.declared.rid.Rid.{Rid}
use Rattle.r2_base.specs.declared.entry.Kind.{Kind}
use Rattle.r2_base.specs.declared.entry.Kind.TheVariants.{Blank, Write, Read}
use Rattle.r2_base.specs.declared.entry.Entry.{Entry}
use Rattle.r2_base.specs.Entry.{is_no_rid, is_request}
use Rattle.r2_base.specs.Limits.{greatest_member, no_replier}
use Rattle.r2_base.specs.Memory.{GivesUnlessMemory}
use Rattle.hc_message.specs.declared.field_fault.FieldFault.{FieldFault}
use Rattle.hc_message.specs.declared.field_fault.FieldFault.TheVariants.{Short, Range}

-- one field and then the next; the first fault ends it
infixl 10 ◌>>=◌
abbrev pub ◌>>=◌ : {A B : Type 0} → Result A FieldFault → (A → Result B FieldFault) → Result B FieldFault
(Ok x) >>= f = f x
(Err fault) >>= f = Err fault

-- a reader's answer, seen by view, is what the bytes read as
abbrev pub Gives : {X Y E : Type 0} → (X → Y) → Result X E → Result Y E → Type 0
Gives view (Ok x) read = read ≡ Ok (view x)
Gives view (Err fault) read = read ≡ Err fault

-- fields by the faults of the whole that they are of
abbrev pub of_fields : {A E : Type 0} → (FieldFault → E) → Result A FieldFault → Result A E
of_fields fault_of (Ok x) = Ok x
of_fields fault_of (Err fault) = Err (fault_of fault)

-- a reader's answer, seen by view, is what the fields read as, by the faults of the whole, unless memory ran out
abbrev pub GivesFields : {X Y E : Type 0} → (E → Bool) → (FieldFault → E) → (X → Y) → Result X E → Result Y FieldFault → Type 0
GivesFields is_memory fault_of view result read = GivesUnlessMemory is_memory view result (of_fields fault_of read)

-- what a check leaves of a reading of fields: the bytes after them, or the fault
abbrev pub after : {A E : Type 0} → Result (A × List ℕ) E → Result (List ℕ) E
after (Ok x) = Ok x.1
after (Err fault) = Err fault

-- what a check leaves of a reading of the whole: that it is read, or the fault
abbrev pub checked : {A E : Type 0} → Result A E → Result (Unit {0}) E
checked (Ok x) = Ok tt
checked (Err fault) = Err fault

-- one byte
abbrev pub front_byte : List ℕ → Result (ℕ × List ℕ) FieldFault
front_byte [] = Err Short
front_byte (b ∷ rest) = Ok (b, rest)

-- a number in so many bytes
abbrev pub front_wide : ℕ → List ℕ → Result (ℕ × List ℕ) FieldFault
front_wide size bytes =
    if nat_lt (length bytes) size then Err Short else Ok (big_number size bytes, drop size bytes)

-- a number in two bytes
unfoldable pub front_u16 : List ℕ → Result (ℕ × List ℕ) FieldFault
front_u16 bytes = front_wide 2 bytes

-- a number in four bytes
unfoldable pub front_u32 : List ℕ → Result (ℕ × List ℕ) FieldFault
front_u32 bytes = front_wide 4 bytes

-- a number in eight bytes
unfoldable pub front_u64 : List ℕ → Result (ℕ × List ℕ) FieldFault
front_u64 bytes = front_wide 8 bytes

-- a whole field whose value has to be in its range
abbrev pub within : ℕ → ℕ → ℕ × List ℕ → Result (ℕ × List ℕ) FieldFault
within least most field = if nat_le least field.0 && nat_le field.0 most then Ok field else Err Range

-- a number from least to most in eight bytes
unfoldable pub front_number : ℕ → ℕ → List ℕ → Result (ℕ × List ℕ) FieldFault
front_number least most bytes = do
  n ← front_u64 bytes
  within least most n

-- a number from least to most in one byte
unfoldable pub front_small : ℕ → ℕ → List ℕ → Result (ℕ × List ℕ) FieldFault
front_small least most bytes = do
  n ← front_byte bytes
  within least most n

-- 0 for no, 1 for yes
unfoldable pub front_flag : List ℕ → Result (Bool × List ℕ) FieldFault
front_flag bytes = do
  n ← front_small 0 1 bytes
  Ok (n.0 == 1, n.1)

-- the kind with a number up to 2
abbrev pub kind_of : ℕ → Kind
kind_of n = if n == 0 then Blank else (if n == 1 then Write else Read)

-- a kind with a number from least on
unfoldable pub front_kind : ℕ → List ℕ → Result (Kind × List ℕ) FieldFault
front_kind least bytes = do
  n ← front_small least 2 bytes
  Ok (kind_of n.0, n.1)

-- a request id, which is one field of eight bytes
unfoldable pub front_rid : List ℕ → Result (Rid × List ℕ) FieldFault
front_rid bytes = do
  ip ← front_u32 bytes
  port ← front_u16 ip.1
  id ← front_u16 port.1
  Ok (record { id = id.0; client = record { ip = ip.0; port = port.0 } }, id.1)

-- the request id of an entry of this kind, which is zero where it has no request
unfoldable pub front_rid_of_kind : Kind → List ℕ → Result (Rid × List ℕ) FieldFault
front_rid_of_kind kind bytes = do
  rid ← front_rid bytes
  if is_request kind || is_no_rid rid.0 then Ok rid else Err Range

-- the replier of an entry of this kind
unfoldable pub front_replier : Kind → List ℕ → Result (ℕ × List ℕ) FieldFault
front_replier kind bytes =
    if is_request kind then front_small 0 greatest_member bytes else front_small no_replier no_replier bytes

-- an entry without its body, whose term is from least to most
unfoldable pub front_entry : ℕ → ℕ → List ℕ → Result (Entry × List ℕ) FieldFault
front_entry least most bytes = do
  term ← front_number least most bytes
  kind ← front_kind 0 term.1
  rid ← front_rid_of_kind kind.0 kind.1
  replier ← front_replier kind.0 rid.1
  Ok (record { term = term.0; kind = kind.0; rid = rid.0; replier = replier.0 }, replier.1)
