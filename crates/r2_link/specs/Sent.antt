-- What the records of a link and of the twins that came back to it say was sent.
use Rattle.std.specs.Prelude.{ℕ, ◌+◌, ◌-◌, ◌≤◌, List, ◌++◌, length, map, take, drop, All, ⊤, vec_capacity}
use Rattle.r2_base.specs.declared.datagram.Datagram.{Datagram}
use Rattle.r2_base.specs.declared.room.Room.{Room}
use Rattle.r2_link.specs.declared.sent.Head.{Head}
use Rattle.r2_link.specs.declared.sent.SentRecord.{SentRecord}
use Rattle.r2_link.specs.declared.sent.Joined.{Joined}
use Rattle.r2_link.specs.declared.sent.Joined.TheVariants.{Nobody, Twin'}

-- the datagram whose bytes lie there
abbrev pub datagram_at : List ℕ → Head → Datagram
datagram_at bytes h = record { from = h.from; to = h.to; bytes = take h.len (drop h.start bytes) }

-- the first n datagrams of a link's own, with those of each twin where it came back
abbrev pub sent_upto : ℕ → List Datagram → Joined → List Datagram
sent_upto n own Nobody = take n own
sent_upto n own (Twin' p heads bytes joined at before) =
    sent_upto at own before
    ++ sent_upto (length heads.items) (map (datagram_at bytes.items) heads.items) joined
    ++ take (n - at) (drop at own)

-- all that a record says was sent
abbrev pub all_sent : SentRecord → List Datagram
all_sent r = sent_upto (length r.heads.items) (map (datagram_at r.bytes.items) r.heads.items) r.joined

-- the twins came back where at most n datagrams had been sent
abbrev pub CameWithin : ℕ → Joined → Type 0
CameWithin n Nobody = ⊤
CameWithin n (Twin' p heads bytes joined at before) = (at ≤ n) × CameWithin at before

-- a record whose own datagrams lie within its bytes, with a capacity for the room that is left
pub record IsReady (r : SentRecord) (room : Room) : Type 0 where
  pub bytes : length r.bytes.items + room.bytes ≤ vec_capacity r.bytes
  pub heads : length r.heads.items + room.calls ≤ vec_capacity r.heads
  pub inside : All (λ h. h.start + h.len ≤ length r.bytes.items) r.heads.items
  pub joined : CameWithin (length r.heads.items) r.joined
