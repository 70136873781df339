-- What the datagrams that were sent tell of replies.
use Rattle.std.specs.Prelude.{ℕ, ◌^◌, ◌-◌, ◌==◌, ◌&&◌, Bool, true, false, if◌then◌else◌, min, List, map, Option, Some, None, is_some, Result, Ok, Err, count_by}
use Rattle.std.specs.List.{list_any, range_with_len}
use Rattle.r2_base.specs.declared.datagram.Datagram.{Datagram}
use Rattle.r2_base.specs.Limits.{id_limit}
use Rattle.r2_base.specs.Names.{same_addr}
use Rattle.r2_header.specs.declared.header.Header.{Header}
use Rattle.r2_header.specs.declared.header_fault.HeaderFault.{HeaderFault}
use Rattle.r2_header.specs.declared.packet.Packet.{Packet}
use Rattle.r2_header.specs.declared.packet.Packet.TheVariants.{Reply}
use Rattle.r2_header.specs.Reading.{header_at}
use Rattle.hc_world.specs.Addresses.{client}

-- a number of a count stays at the end of its type
abbrev pub capped : ℕ → ℕ
capped n = min n (2 ^ 64 - 1)

-- a packet is one of a reply
abbrev pub is_reply : Packet → Bool
is_reply Reply = true
is_reply _ = false

-- the id in a header, where it is that of a reply's first part
abbrev pub id_begun : Header → Option ℕ
id_begun h = if is_reply h.packet && h.first then Some h.id else None

abbrev pub id_read : Result (Header × ℕ) HeaderFault → Option ℕ
id_read (Ok (h, size)) = id_begun h
id_read (Err fault) = None

-- the id of the request whose reply begins with a datagram, if one does
unfoldable pub begun_id : Datagram → Option ℕ
begun_id d = id_read (header_at d.bytes)

-- whether a reply begins with a datagram
abbrev pub begins_reply : Datagram → Bool
begins_reply d = is_some (begun_id d)

-- whether it is this id
abbrev pub is_id : ℕ → Option ℕ → Bool
is_id id (Some begun) = begun == id
is_id id None = false

-- whether the reply to the client's request with this id begins with a datagram
abbrev pub replies_to : ℕ → Datagram → Bool
replies_to id d = same_addr d.to client && is_id id (begun_id d)

-- whether one of these datagrams is the first of a reply to the client's request with this id
abbrev pub is_answered : List Datagram → ℕ → Bool
is_answered datagrams id = list_any (replies_to id) datagrams

-- of each id that the client has, whether its request has a reply among these datagrams
unfoldable pub answered_in : List Datagram → List Bool
answered_in datagrams = map (is_answered datagrams) (range_with_len 0 id_limit)

-- how many replies are among these datagrams
unfoldable pub replies_in : List Datagram → ℕ
replies_in datagrams = count_by begins_reply datagrams
