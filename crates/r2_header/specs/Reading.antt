-- What bytes read as: the fields that they hold, and the checks in their order.
use Rattle.std.specs.Prelude.{ℕ, ◌+◌, ◌≤◌, ◌/◌, ◌%◌, ◌==◌, Bool, true, false, not, ◌&&◌, ◌||◌, if◌then◌else◌, List, [], ◌∷◌, ◌++◌, Option, Some, None, is_some, Result, Ok, Err, drop, length, nat_le, slice_index}
use Rattle.byteorder.specs.Endian.{big_number}
use Rattle.r2_base.specs.declared.addr.Addr.{Addr}
use Rattle.r2_header.specs.declared.header.Header.{Header}
use Rattle.r2_header.specs.declared.header_fault.HeaderFault.{HeaderFault}
use Rattle.r2_header.specs.declared.header_fault.HeaderFault.TheVariants.{Short, Magic, Size, TypeOrPolicy, Flags, Count, Extension}
use Rattle.r2_header.specs.declared.packet.Packet.{Packet}
use Rattle.r2_header.specs.declared.packet.Packet.TheVariants.{Req0, Reply, ReqRdy, ReqN, Feedback, Reject, Ordering, Recover}
use Rattle.r2_header.specs.Header.{magic}
use Rattle.r2_header.specs.Layout.{short}
use Rattle.r2_header.specs.Span.{is_within, has_number}
use Rattle.r2_header.specs.Table.{first_counts, numbers, policies}

-- the number in the two bytes from a place
unfoldable pub u16_at : ℕ → List ℕ → ℕ
u16_at place bytes = big_number 2 (drop place bytes)

-- the number in the four bytes from a place
unfoldable pub u32_at : ℕ → List ℕ → ℕ
u32_at place bytes = big_number 4 (drop place bytes)

-- the type with a number up to 7 (a greater number is no type's, and `is_in_table` refuses it)
abbrev pub packet_numbered : ℕ → Packet
packet_numbered n =
    if n == 0 then Req0
    else (if n == 1 then Reply
    else (if n == 2 then ReqRdy
    else (if n == 3 then ReqN
    else (if n == 4 then Feedback
    else (if n == 5 then Reject
    else (if n == 6 then Ordering
    else Recover))))))

-- the client's address, which only the greater header carries
unfoldable pub client_at : List ℕ → Option Addr
client_at bytes =
    if slice_index bytes 1 == short.size_with_client
    then Some (record { ip = u32_at short.ip bytes; port = u16_at short.port bytes })
    else None

-- the fields that the bytes hold
unfoldable pub fields_at : List ℕ → Header
fields_at bytes =
    record {
      packet = packet_numbered (slice_index bytes short.kind / 16);
      policy = slice_index bytes short.kind % 16;
      first = slice_index bytes short.flags / 0x80 % 2 == 1;
      last = slice_index bytes short.flags / 0x40 % 2 == 1;
      id = u16_at short.id bytes;
      number = u16_at short.number bytes;
      client = client_at bytes;
    }

-- a request id that the type may have
abbrev pub id_fits : Packet → ℕ → Bool
id_fits Ordering id = id == 0
id_fits _ id = true

-- the messages of the type have one part alone, which is the first and the last
abbrev pub is_one_part : Packet → Bool
is_one_part packet = (first_counts packet).most == 1

-- the type has such a part, and one of a single part has the flag of the last part
abbrev pub flags_fit : Packet → Bool → Bool → Bool
flags_fit packet first last = has_number (numbers packet first) && (not (is_one_part packet) || last)

-- the flag of the last part is set exactly where a first part counts one part
abbrev pub last_fits : Bool → Bool → ℕ → Bool
last_fits true true number = number == 1
last_fits true false number = not (number == 1)
last_fits false last number = true

-- the size is one of a header's two
abbrev pub is_size : ℕ → Bool
is_size n = n == short.size || n == short.size_with_client

-- the type exists, and goes with the policy, the size and the request id
abbrev pub is_in_table : ℕ → Header → Bool
is_in_table type h =
    nat_le type 7 && is_within (policies h.packet (is_some h.client)) h.policy && id_fits h.packet h.id

-- where the bytes hold the client's address, the two after it are zero
abbrev pub is_zero_padded : List ℕ → Bool
is_zero_padded bytes =
    not (slice_index bytes 1 == short.size_with_client) || (slice_index bytes short.padding == 0 && slice_index bytes (short.padding + 1) == 0)

-- a check, and the fault of what doesn't pass it
pub record Check : Type 0 where
  pub passes : Bool
  pub fault : HeaderFault

-- a check with this fault
abbrev pub check : HeaderFault → Bool → Check
check fault passes = record { passes = passes; fault = fault }

-- the fault of the first check that isn't passed
abbrev pub first_fault : List Check → Option HeaderFault
first_fault [] = None
first_fault (c ∷ cs) = if c.passes then first_fault cs else Some c.fault

-- the checks on the form: enough bytes, which begin as a header does
abbrev pub form_checks : List ℕ → List Check
form_checks bytes =
    check Short (nat_le short.size (length bytes))
    ∷ check Magic (slice_index bytes 0 == magic)
    ∷ check Size (is_size (slice_index bytes 1))
    ∷ check Short (nat_le (slice_index bytes 1) (length bytes))
    ∷ []

-- there are as many bytes as the size says
pub record HasForm (bytes : List ℕ) : Type 0 where
  pub least : short.size ≤ length bytes
  pub size : slice_index bytes 1 ≤ length bytes

-- the checks on the fields, against the table of types
abbrev pub field_checks : List ℕ → Header → List Check
field_checks bytes h =
    check TypeOrPolicy (is_in_table (slice_index bytes short.kind / 16) h)
    ∷ check Flags (slice_index bytes short.flags % 0x40 == 0 && flags_fit h.packet h.first h.last)
    ∷ check Count (is_within (numbers h.packet h.first) h.number && last_fits h.first h.last h.number)
    ∷ check Extension (is_zero_padded bytes)
    ∷ []

-- a value, where there is no fault
abbrev pub ok_unless : {A : Type 0} → Option HeaderFault → A → Result A HeaderFault
ok_unless (Some fault) value = Err fault
ok_unless None value = Ok value

-- what bytes read as: the header that they begin with and its size, or the fault of the first check that isn't passed
unfoldable pub header_at : List ℕ → Result (Header × ℕ) HeaderFault
header_at bytes =
    let h = fields_at bytes in
    ok_unless (first_fault (form_checks bytes ++ field_checks bytes h)) (h, slice_index bytes 1)
