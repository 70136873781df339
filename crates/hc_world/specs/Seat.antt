-- A place in a group, where a member runs or rests.
use Rattle.std.specs.Prelude.{◌≡◌, List, Option, Some, None}
use Rattle.r2_base.specs.declared.datagram.Datagram.{Datagram}
use Rattle.hc_log.specs.declared.record.Record.{Record}
use Rattle.hc_log.specs.Durable.{IsHistory, replay}
use Rattle.hc_member.specs.declared.setup.Setup.{Setup}
use Rattle.hc_member.specs.Laws.{IsStored}
use Rattle.hc_member.specs.Member.{Member, beginning, durable_of}
use Rattle.hc_member.specs.Sending.{datagrams_of_all}
use Rattle.hc_member.specs.Setup.{IsSetup}
use Rattle.hc_member.specs.Turn.{Reacted}
use Rattle.hc_node.specs.Node.{NodeState}
use Rattle.hc_run.specs.State.{Replica}
use Rattle.hc_world.specs.declared.seat.Seat.{Seat}

-- the member that a node runs; one that memory ran out for runs none
abbrev pub member_in : Option (Option NodeState) → Option Member
member_in (Some (Some n)) = Some n.member
member_in (Some None) = None
member_in None = None

-- what is seen of a place
abbrev pub replica_of : Seat → Replica
replica_of seat = record { journal = seat.records; member = member_in seat.node }

-- a member; where there is none, nothing is said of it
abbrev pub member_or : Option Member → Member
member_or (Some m) = m
member_or None = beginning

-- the member that runs there
abbrev pub member_of : Seat → Member
member_of seat = member_or (member_in seat.node)

-- a member of this group runs there, and keeps what the records of its turns lead to
pub record Runs (s : Setup) (m : Member) (seat : Seat) : Type 0 where
  pub group : IsSetup s
  pub setup : seat.setup ≡ s
  pub node : seat.node ≡ Some (Some (record { setup = s; member = m }))
  pub history : IsHistory seat.records
  pub durable : replay seat.records ≡ durable_of m

-- some member does
abbrev pub IsRunning : Seat → Type 0
IsRunning seat = Runs seat.setup (member_of seat) seat

-- it rests there
pub record Rests (s : Setup) (seat : Seat) : Type 0 where
  pub group : IsSetup s
  pub setup : seat.setup ≡ s
  pub node : seat.node ≡ None
  pub history : IsHistory seat.records

-- by what runs there
abbrev pub IsPlace : Setup → Seat → Option Member → Type 0
IsPlace s seat (Some m) = Runs s m seat
IsPlace s seat None = Rests s seat

-- it is the place of the member of this group
abbrev pub IsSeat : Setup → Seat → Type 0
IsSeat s seat = IsPlace s seat (member_in seat.node)

-- a turn, or a half of one, left this of a place, whose records are still the earlier ones, and gave this to be stored and sent
pub record Gives (old : Seat) (t : Reacted) (new : Seat) (gave : Option Record) (gone : List Datagram) : Type 0 where
  pub setup : new.setup ≡ old.setup
  pub node : new.node ≡ Some (Some (record { setup = old.setup; member = t.member }))
  pub records : new.records ≡ old.records
  pub stored : gave ≡ t.stored
  pub sends : gone ≡ datagrams_of_all old.setup t.sends
  pub changed : IsStored (durable_of (member_of old)) gave (durable_of t.member)
