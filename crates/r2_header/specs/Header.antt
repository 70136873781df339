-- The header grammar: which headers are valid, and the bytes that encode each.
use Rattle.std.specs.Prelude.{◌≡◌, ℕ, ◌+◌, ◌*◌, ◌==◌, Bool, true, false, if◌then◌else◌, List, [], ◌∷◌, ◌++◌, Option, Some, None, is_some}
use Rattle.r2_base.specs.declared.addr.Addr.{Addr}
use Rattle.r2_base.specs.Numbers.{u16_bytes, u32_bytes}
use Rattle.r2_header.specs.declared.header.Header.{Header}
use Rattle.r2_header.specs.declared.packet.Packet.{Packet}
use Rattle.r2_header.specs.declared.packet.Packet.TheVariants.{Ordering}
use Rattle.r2_header.specs.Layout.{short}
use Rattle.r2_header.specs.Span.{IsWithin}
use Rattle.r2_header.specs.Table.{type_number, policies, numbers}

-- the flag of the last part is set exactly where a first part counts one part; after the first part it is free
abbrev pub LastFits : Bool → Bool → ℕ → Type 0
LastFits true last number = last ≡ (number == 1)
LastFits false last number = Unit {0}

-- an ordering message belongs to no single request
abbrev pub IdFits : Packet → ℕ → Type 0
IdFits Ordering id = id ≡ 0
IdFits _ id = Unit {0}

-- what the table of types says of a header
pub record IsValid (h : Header) : Type 0 where
  pub policy : IsWithin (policies h.packet (is_some h.client)) h.policy
  pub id : IdFits h.packet h.id
  pub number : IsWithin (numbers h.packet h.first) h.number
  pub last : LastFits h.first h.last h.number

-- the first byte of each header
abbrev pub magic : ℕ
magic = 0x52

-- the size of a header, by its client
abbrev pub size_with : Option Addr → ℕ
size_with None = short.size
size_with (Some a) = short.size_with_client

-- the byte of flags: first part 0x80, last part 0x40
abbrev pub flags_of : Bool → Bool → ℕ
flags_of first last = (if first then 0x80 else 0) + (if last then 0x40 else 0)

-- the bytes of the client's address: ip, port and two zeros
unfoldable pub client_bytes : Option Addr → List ℕ
client_bytes None = []
client_bytes (Some a) = u32_bytes a.ip ++ u16_bytes a.port ++ 0 ∷ 0 ∷ []

-- the first four bytes: what the packet is
unfoldable pub kind_bytes : Header → List ℕ
kind_bytes h =
    magic ∷ size_with h.client ∷ (type_number h.packet * 16 + h.policy) ∷ flags_of h.first h.last ∷ []

-- the bytes of a header
unfoldable pub spelling : Header → List ℕ
spelling h = ((kind_bytes h ++ u16_bytes h.id) ++ u16_bytes h.number) ++ client_bytes h.client

-- these bytes are the valid header's
pub record Spells (h : Header) (bytes : List ℕ) : Type 0 where
  pub valid : IsValid h
  pub same : bytes ≡ spelling h

-- the header of a packet that is one part, the first and the last of its message
abbrev pub one_part_header : Packet → ℕ → ℕ → Option Addr → Header
one_part_header type policy id client =
    record { packet = type; policy = policy; first = true; last = true; id = id; number = 1; client = client }
