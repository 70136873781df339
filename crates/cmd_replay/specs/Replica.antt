-- A replica that a script runs, and the records of its turns.
use Rattle.std.specs.Prelude.{◌≡◌, List, [], ◌∷◌, Option, Some, None}
use Rattle.r2_base.specs.declared.datagram.Datagram.{Datagram}
use Rattle.hc_log.specs.declared.record.Record.{Record}
use Rattle.hc_log.specs.Durable.{replay, IsHistory}
use Rattle.hc_member.specs.declared.setup.Setup.{Setup}
use Rattle.hc_member.specs.Laws.{IsStored}
use Rattle.hc_member.specs.Member.{Member, beginning, durable_of}
use Rattle.hc_member.specs.Sending.{datagrams_of_all}
use Rattle.hc_member.specs.Setup.{IsSetup}
use Rattle.hc_member.specs.Turn.{Reacted}
use Rattle.hc_node.specs.Node.{NodeState}
use Rattle.cmd_replay.specs.declared.replica.Replica.{Replica}

-- the member that a node runs; where memory ran out there is none, and nothing is said of it
abbrev pub member_at : Option NodeState → Member
member_at (Some n) = n.member
member_at None = beginning

-- the member that a replica is
abbrev pub member_of : Replica → Member
member_of r = member_at r.node

-- a replica of this group runs this member, and has the records of its turns: each may come next after those before it, and they
-- lead to what the member keeps over a crash
pub record Runs (s : Setup) (m : Member) (r : Replica) : Type 0 where
  pub group : IsSetup s
  pub setup : r.setup ≡ s
  pub node : r.node ≡ Some (record { setup = s; member = m })
  pub history : IsHistory r.records
  pub state : replay r.records ≡ durable_of m

-- a replica that memory sufficed for
abbrev pub IsRunning : Replica → Type 0
IsRunning r = Runs r.setup (member_of r) r

-- what was stored as a list
abbrev pub stored_list : Option Record → List Record
stored_list (Some r) = r ∷ []
stored_list None = []

-- a turn, or a half of one, left this of a replica, whose records are still the earlier ones, and gave this to be stored and sent
pub record Gives (old : Replica) (t : Reacted) (new : Replica) (gave : Option Record) (gone : List Datagram) : Type 0 where
  pub setup : new.setup ≡ old.setup
  pub node : new.node ≡ Some (record { setup = old.setup; member = t.member })
  pub records : new.records ≡ old.records
  pub stored : gave ≡ t.stored
  pub sends : gone ≡ datagrams_of_all old.setup t.sends
  pub changed : IsStored (durable_of (member_of old)) gave (durable_of t.member)
