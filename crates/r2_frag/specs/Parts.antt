-- A body in parts: its pieces, and the datagram of each.
use Rattle.std.specs.Prelude.{ℕ, zero, suc, ◌+◌, ◌-◌, ◌*◌, ◌/◌, ◌≤◌, ◌<◌, ◌==◌, max, if◌then◌else◌, List, ◌++◌, length, take, drop, map, Option, Some, None}
use Rattle.std.specs.List.{range_with_len}
use Rattle.r2_base.specs.Limits.{most_body, most_reply}
use Rattle.r2_base.specs.declared.addr.Addr.{Addr}
use Rattle.r2_base.specs.declared.datagram.Datagram.{Datagram}
use Rattle.r2_header.specs.declared.header.Header.{Header}
use Rattle.r2_header.specs.declared.packet.Packet.{Packet}
use Rattle.r2_header.specs.declared.packet.Packet.TheVariants as packet
use Rattle.r2_header.specs.Header.{spelling}
use Rattle.r2_header.specs.Span.{IsWithin}
use Rattle.r2_header.specs.Table.{policies}
use Rattle.r2_frag.specs.declared.class.Class.{Class}
use Rattle.r2_frag.specs.declared.class.Class.TheVariants.{Request, Reply, Recover}
use Rattle.r2_frag.specs.declared.part_spec.PartSpec.{PartSpec}

-- the bytes of a piece that isn't the last
abbrev pub piece_size : ℕ
piece_size = 1024

-- the most parts that a message may have
abbrev pub most_parts : ℕ
most_parts = 64

-- how many pieces a body has: as few as hold it, and one for the empty body; no body within its limit has more than
-- `most_parts`, and no header can number more
unfoldable pub part_count : List ℕ → ℕ
part_count body = max 1 ((length body + (piece_size - 1)) / piece_size)

-- the piece of a body with this number, counted from 0
unfoldable pub piece : List ℕ → ℕ → List ℕ
piece body n = take piece_size (drop (n * piece_size) body)

-- the most bytes that a body of this class may have; that of a RECOVER has two bytes more than a request's
abbrev pub body_limit : Class → ℕ
body_limit Request = most_body
body_limit Reply = most_reply
body_limit Recover = most_body + 2

-- the type of packet of the part with this number
abbrev pub part_type : Class → ℕ → Packet
part_type Request zero = packet.Req0
part_type Request (suc n) = packet.ReqN
part_type Reply n = packet.Reply
part_type Recover n = packet.Recover

-- the client's address, where the headers carry it
abbrev pub carried : PartSpec → Option Addr
carried spec = if spec.extended then Some spec.key.rid.client else None

-- the header of one of so many parts
unfoldable pub part_header : PartSpec → ℕ → ℕ → Header
part_header spec count n =
    record {
      packet = part_type spec.key.class n;
      policy = spec.key.policy;
      first = n == 0;
      last = n + 1 == count;
      id = spec.key.rid.id;
      number = if n == 0 then count else n;
      client = carried spec;
    }

-- the datagram of a part: its header and its piece
unfoldable pub part_datagram : PartSpec → List ℕ → ℕ → Datagram
part_datagram spec body n =
    record { from = spec.from; to = spec.to; bytes = spelling (part_header spec (part_count body) n) ++ piece body n }

-- one datagram for each piece, in order
unfoldable pub parts_of : PartSpec → List ℕ → List Datagram
parts_of spec body = map (part_datagram spec body) (range_with_len 0 (part_count body))

-- a body may be sent in parts: it is within its limit, and the types of the parts have this policy, with the client's
-- address or without
pub record IsSendable (spec : PartSpec) (body : List ℕ) : Type 0 where
  pub limit : length body ≤ body_limit spec.key.class
  pub first : IsWithin (policies (part_type spec.key.class 0) spec.extended) spec.key.policy
  pub later : 1 < part_count body → IsWithin (policies (part_type spec.key.class 1) spec.extended) spec.key.policy
