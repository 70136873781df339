-- Who is where.
use Rattle.std.specs.Prelude.{ℕ, ◌+◌, Bool, true, false, List, map, Option, Some, None}
use Rattle.std.specs.List.{range_with_len}
use Rattle.r2_base.specs.declared.addr.Addr.{Addr}
use Rattle.r2_base.specs.declared.rid.Rid.{Rid}
use Rattle.hc_run.specs.Group.{Group}

-- 10.0.0.200:7000, the client's address
abbrev pub client : Addr
client = record { ip = 0x0A0000C8; port = 7000 }

-- 10.0.0.100:9100, that of the aggregator
abbrev pub aggregator : Addr
aggregator = record { ip = 0x0A000064; port = 9100 }

-- 10.0.0.1:9000 is the first member's address, and each later one has the next ip
abbrev pub member_address : ℕ → Addr
member_address v = record { ip = 0x0A000001 + v; port = 9000 }

-- the aggregator's address, where there is an aggregator
abbrev pub address_where : Bool → Option Addr
address_where true = Some aggregator
address_where false = None

-- after how many ticks without word from a leader the first member stands for election
abbrev pub election : ℕ
election = 10

-- a group of members at these addresses
abbrev pub group_with : List Addr → Option Addr → List ℕ → Group
group_with members aggregator bounds =
    record {
      members = members;
      aggregator = aggregator;
      bounds = bounds;
      election = election;
    }

-- a group of so many members, with these bounds, with an aggregator or without
unfoldable pub group_at : ℕ → List ℕ → Bool → Group
group_at members bounds has_aggregator =
    group_with (map member_address (range_with_len 0 members)) (address_where has_aggregator) bounds

-- the id of the client's request with this number, counted from 0
abbrev pub rid_of : ℕ → Rid
rid_of number = record { id = number; client = client }
