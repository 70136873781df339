-- The fields of a header's bytes are the header's.
use Rattle.std.proofs.Common.{◌≡◌, ◌<◌, ◌+◌, ◌*◌, ◌/◌, ◌%◌, ◌^◌, ◌==◌, ℕ, Bool, true, false, List, ◌∷◌, ◌++◌, Option, Some, None, refl, ap, ◌∙◌, arith}
use Rattle.byteorder.specs.Numbers.{big_number-reads_back}
use Rattle.r2_base.specs.declared.addr.Addr.{Addr}
use Rattle.r2_header.specs.declared.header.Header.{Header}
use Rattle.r2_header.specs.declared.packet.Packet.{Packet}
use Rattle.r2_header.specs.declared.packet.Packet.TheVariants.{Req0, Reply, ReqRdy, ReqN, Feedback, Reject, Ordering, Recover}
use Rattle.r2_base.specs.Numbers.{u16_bytes, u32_bytes}
use Rattle.r2_header.specs.Header.{client_bytes, flags_of, kind_bytes, spelling}
use Rattle.r2_header.specs.Laws.{FitsClient, FitsHeader}
use Rattle.r2_header.specs.Reading.{client_at, fields_at, packet_numbered, u16_at, u32_at}
use Rattle.r2_header.specs.Table.{type_number}

-- a header of these fields
abbrev header_of : Packet → ℕ → Bool → Bool → ℕ → ℕ → Option Addr → Header
header_of packet policy first last id number client =
    record { packet = packet; policy = policy; first = first; last = last; id = id; number = number; client = client }

-- headers with the same fields are the same
same_header : (a a' : Packet) (b b' : ℕ) (c c' d d' : Bool) (e e' f f' : ℕ) (g g' : Option Addr) → a ≡ a' → b ≡ b' → c ≡ c' → d ≡ d' → e ≡ e' → f ≡ f' → g ≡ g' → header_of a b c d e f g ≡ header_of a' b' c' d' e' f' g'
same_header a a' b b' c c' d d' e e' f f' g g' p q r s t u v = cc

-- a type's number names it
pub packet_numbered-type_number : (p : Packet) → packet_numbered (type_number p) ≡ p
packet_numbered-type_number Req0 = refl
packet_numbered-type_number Reply = refl
packet_numbered-type_number ReqRdy = refl
packet_numbered-type_number ReqN = refl
packet_numbered-type_number Feedback = refl
packet_numbered-type_number Reject = refl
packet_numbered-type_number Ordering = refl
packet_numbered-type_number Recover = refl

-- the byte of flags gives back the flag of the first part
pub flags_of-first : (first last : Bool) → (flags_of first last / 0x80 % 2 == 1) ≡ first
flags_of-first true true = refl
flags_of-first true false = refl
flags_of-first false true = refl
flags_of-first false false = refl

-- and that of the last part
pub flags_of-last : (first last : Bool) → (flags_of first last / 0x40 % 2 == 1) ≡ last
flags_of-last true true = refl
flags_of-last true false = refl
flags_of-last false true = refl
flags_of-last false false = refl

-- and has no other bit
pub flags_of-others : (first last : Bool) → (flags_of first last % 0x40 == 0) ≡ true
flags_of-others true true = refl
flags_of-others true false = refl
flags_of-others false true = refl
flags_of-others false false = refl

-- the client's address is read back
client_at-spelling : (h : Header) (client : Option Addr) (rest : List ℕ) → h.client ≡ client → FitsClient client → client_at (spelling h ++ rest) ≡ client
unfolding client_at spelling kind_bytes u16_bytes u32_bytes client_bytes u16_at u32_at
client_at-spelling h None rest e fits = rw e refl
client_at-spelling h (Some a) rest e fits =
    let ip = big_number-reads_back 4 a.ip (u16_bytes a.port ++ 0 ∷ 0 ∷ rest) fits.ip in
    let port = big_number-reads_back 2 a.port (0 ∷ 0 ∷ rest) fits.port in
    rw (e, ip, port) refl

-- the fields of the bytes of a header are the header's
pub fields_at-spelling : (h : Header) (rest : List ℕ) → h.policy < 16 → h.number < 2 ^ 16 → FitsHeader h → fields_at (spelling h ++ rest) ≡ h
unfolding fields_at spelling kind_bytes u16_bytes u16_at
fields_at-spelling h rest policy number fits =
    let type : (type_number h.packet * 16 + h.policy) / 16 ≡ type_number h.packet = omega arith in
    same_header _ h.packet _ h.policy _ h.first _ h.last _ h.id _ h.number _ h.client
    (ap packet_numbered type ∙ packet_numbered-type_number h.packet)
    (omega arith)
    (flags_of-first h.first h.last)
    (flags_of-last h.first h.last)
    (big_number-reads_back 2 h.id (u16_bytes h.number ++ client_bytes h.client ++ rest) fits.id)
    (big_number-reads_back 2 h.number (client_bytes h.client ++ rest) number)
    (client_at-spelling h h.client rest refl fits.client)
