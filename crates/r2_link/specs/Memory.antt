-- What contracts see of the objects in memory.
use Rattle.std.specs.Prelude.{ℕ, ◌-◌, ◌<◌, ◌⊎◌, List, [], ◌∷◌, map, Option, Some}
use Rattle.r2_base.specs.declared.addr.Addr.{Addr}
use Rattle.r2_base.specs.declared.room.Room.{Room}
use Rattle.r2_base.specs.declared.datagram.Datagram.{Datagram}
use Rattle.r2_link.specs.declared.lane.Item.{Item}
use Rattle.r2_link.specs.declared.lane.Lane.{Lane}
use Rattle.r2_link.specs.Links.{LinkTold}

-- a source: the bytes that are left, the calls made so far, the numbers of the calls that fail, and how often it failed
pub record SourceState : Type 0 where
  pub left : List ℕ
  pub calls : ℕ
  pub fails : List ℕ
  pub faults : ℕ

-- a sink: the bytes that were written, the room that is left, the calls made so far, the numbers of the calls that fail, and how often it failed
pub record SinkState : Type 0 where
  pub written : List ℕ
  pub room : Room
  pub calls : ℕ
  pub fails : List ℕ
  pub faults : ℕ

-- a clock: the moments that are left, the calls made so far, the numbers of the calls that fail, and how often it failed
pub record ClockState : Type 0 where
  pub left : List ℕ
  pub calls : ℕ
  pub fails : List ℕ
  pub faults : ℕ

-- a link: the address at which it receives, the items that are left, the datagrams that were sent, the lanes that are left for twins, the room that is left, the calls made so far, the numbers of the calls that fail, and how often it failed
pub record LinkState : Type 0 where
  pub me : Option Addr
  pub left : List Item
  pub sent : List Datagram
  pub lanes : List Lane
  pub room : Room
  pub calls : ℕ
  pub fails : List ℕ
  pub faults : ℕ

-- a link at its beginning, which receives at this address, with a lane of its own and these for its twins
abbrev pub begun : Option Addr → Lane → List Lane → LinkState
begun me own twins = record { me = me; left = own.items; sent = []; lanes = twins; room = own.room; calls = 0; fails = own.fails; faults = 0 }

-- the lane of the next twin: an empty one without a room where none is left
abbrev pub next_lane : List Lane → Lane
next_lane [] = record { items = []; room = record { bytes = 0; calls = 0 }; fails = [] }
next_lane (lane ∷ rest) = lane

-- the items of a lane
abbrev pub items_of : Lane → List Item
items_of lane = lane.items

-- what a link in memory tells: all of it
abbrev pub told_by : LinkState → LinkTold
told_by l = record { left = Some l.left; sent = Some l.sent; lanes = Some (map items_of l.lanes); me = l.me }

-- no call is left, or fewer bytes than these
abbrev pub IsTooSmall : Room → ℕ → Type 0
IsTooSmall room size = (room.calls < 1) ⊎ (room.bytes < size)

-- the room that is left after a call that took these bytes
abbrev pub room_after : Room → ℕ → Room
room_after room size = record { bytes = room.bytes - size; calls = room.calls - 1 }
