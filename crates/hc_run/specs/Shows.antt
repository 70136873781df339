-- When a state of the protocol shows a group that runs.
use Rattle.std.specs.Prelude.{◌≡◌, ℕ, ◌<◌, map, slice_index_or, length, Option, Some, None, All}
use Rattle.hc_log.specs.Durable.{IsHistory, replay}
use Rattle.hc_log.specs.declared.record.Record.{Record}
use Rattle.std.specs.Prelude.{List}
use Rattle.hc_member.specs.declared.setup.Setup.{Setup}
use Rattle.hc_member.specs.Member.{Member, durable_of}
use Rattle.hc_member.specs.Sound.{IsSound}
use Rattle.hc_aggregate.specs.Sound.{IsTally}
use Rattle.hc_rules.specs.Kept.{Kept}
use Rattle.hc_rules.specs.Log.{In}
use Rattle.hc_rules.specs.Message.{Reply}
use Rattle.hc_rules.specs.Parts.{member_of}
use Rattle.hc_rules.specs.Protocol.{ProtocolState}
use Rattle.hc_rules.specs.Replies.{Answered}
use Rattle.hc_run.specs.Group.{Group, setup_of}
use Rattle.hc_run.specs.State.{GroupState, Replica, replica_at}
use Rattle.hc_run.specs.Tied.{IsTied, IsTiedDown, IsTiedTally, passed_in}
use Rattle.hc_run.specs.Held.{Holds, IsAsked, IsStoredOf}
use Rattle.hc_run.specs.Backed.{IsBackedDatagram}

-- the protocol's group is this one
pub record IsGroupOf (s : Setup) (w : ProtocolState) : Type 0 where
  pub size : w.size ≡ length s.members
  pub bound : (p : ℕ) → w.bound p ≡ slice_index_or s.bounds p 0

-- a state of the protocol shows a member that is up: they are tied, the member is sound, and what it holds is known
pub record IsShown (s : Setup) (w : ProtocolState) (m : Member) : Type 0 where
  pub group : IsGroupOf s w
  pub tied : IsTied (member_of w s.me) m
  pub sound : IsSound s m
  pub holds : Holds w.table w.replied w.reports s.me m

-- a member that is up keeps what its journal leads to; of one that is down the journal says all
abbrev pub ShowsMember : Setup → ProtocolState → List Record → Option Member → Type 0
ShowsMember s w journal (Some m) = IsShown s w m × (durable_of m ≡ replay journal)
ShowsMember s w journal None = IsTiedDown (member_of w s.me) (replay journal)

-- a state of the protocol shows one member's place
pub record ShowsReplica (s : Setup) (w : ProtocolState) (r : Replica) : Type 0 where
  pub history : IsHistory r.journal
  pub bodies : All (IsStoredOf w.table) (replay r.journal).log
  pub member : ShowsMember s w r.journal r.member

-- a state of the protocol shows a group: every step of the protocol keeps what it has, and all that can be seen of the group is in it
pub record Shows (g : Group) (w : ProtocolState) (s : GroupState) : Type 0 where
  pub kept : Kept w
  pub answered : Answered w
  pub group : IsGroupOf (setup_of g 0) w
  pub each : length s.replicas ≡ length g.members
  pub members : (v : ℕ) → v < length g.members → ShowsReplica (setup_of g v) w (replica_at s v)
  pub aggregator : IsTiedTally w.aggregator s.tally
  pub tally : IsTally (length g.members) s.tally
  pub table : w.table ≡ s.table
  pub asked : All IsAsked s.table
  pub passed : w.passed ≡ map passed_in s.passed
  pub reports : w.reports ≡ s.reports
  pub replied : (r : Reply) → In r s.replied → In r w.replied
  pub datagrams : All (IsBackedDatagram g.members w) s.datagrams
