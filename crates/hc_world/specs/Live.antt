-- A world that memory sufficed for.
use Rattle.std.specs.Prelude.{◌≡◌, ℕ, ◌<◌, List, [], length, map, replicate, slice_index_or, Option, Some, None, option_map}
use Rattle.r2_base.specs.declared.addr.Addr.{Addr}
use Rattle.r2_base.specs.Limits.{id_limit}
use Rattle.hc_aggregate.specs.Tally.{Tally, no_tally}
use Rattle.hc_aggregate.specs.Turn.{AggregatorState}
use Rattle.hc_run.specs.Group.{Group, IsGroup, setup_of}
use Rattle.hc_run.specs.State.{started}
use Rattle.hc_world.specs.declared.live.Live.{Live}
use Rattle.hc_world.specs.declared.seat.Seat.{Seat}
use Rattle.hc_world.specs.Addresses.{group_with}
use Rattle.hc_world.specs.Seat.{IsSeat, replica_of}
use Rattle.hc_world.specs.Seen.{Seen}

-- who is in its group
abbrev pub group_of : Live → Group
group_of l = group_with l.members l.address l.bounds

-- what an aggregator counts; where there is none it would count nothing
abbrev pub tally_of : ℕ → Option AggregatorState → Tally
tally_of size (Some a) = a.tally
tally_of size None = no_tally size

-- what is seen of it
unfoldable pub seen_of : Live → Seen
seen_of l =
    record {
      group = group_of l;
      replicas = map replica_of l.seats.items;
      tally = tally_of (length l.members) l.aggregator;
      datagrams = l.datagrams.items;
      answered = l.answered.items;
      events = l.events;
      requests = l.requests;
      replies = l.replies;
      passed = l.passed;
      crashes = l.crashes;
    }

-- the aggregator is the group's
abbrev pub IsServed : List Addr → Option Addr → Option AggregatorState → Type 0
IsServed members (Some address) (Some a) = (a.me ≡ address) × (a.members ≡ members)
IsServed members None None = Unit {0}
IsServed members _ _ = ⊥

-- each is a place of some member
pub record AreSeats (seats : List Seat) : Type 0 where
  pub each : (v : ℕ) (d : Seat) → v < length seats → IsSeat (slice_index_or seats v d).setup (slice_index_or seats v d)

-- these are the places of so many members of a group that begin
pub record AreNew (g : Group) (count : ℕ) (seats : List Seat) : Type 0 where
  pub size : length seats ≡ count
  pub each : (v : ℕ) (d : Seat) → v < count → IsSeat (setup_of g v) (slice_index_or seats v d)
  pub begun : map replica_of seats ≡ replicate count (started [])

-- its members are those of a group that there may be, each at its place
pub record IsWorld (l : Live) : Type 0 where
  pub group : IsGroup (group_of l)
  pub each : length l.seats.items ≡ length l.members
  pub seats : (v : ℕ) (d : Seat) → v < length l.seats.items → IsSeat (setup_of (group_of l) v) (slice_index_or l.seats.items v d)
  pub served : IsServed l.members l.address l.aggregator
  pub ids : length l.answered.items ≡ id_limit

-- where memory ran out nothing is seen
abbrev pub seen_in : Option Live → Option Seen
seen_in live = option_map seen_of live

-- and nothing holds
abbrev pub IsWorldUnlessSpent : Option Live → Type 0
IsWorldUnlessSpent (Some l) = IsWorld l
IsWorldUnlessSpent None = Unit {0}

-- it is a world of which this is seen
pub record ShowsWorld (w : Seen) (l : Live) : Type 0 where
  pub is : IsWorld l
  pub seen : seen_of l ≡ w
