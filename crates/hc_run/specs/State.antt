-- The state of a group that runs, as plain data.
use Rattle.std.specs.Prelude.{ℕ, Bool, is_some, List, [], length, replicate, slice_index_or, slice_set, Option, Some, None}
use Rattle.r2_base.specs.declared.datagram.Datagram.{Datagram}
use Rattle.hc_log.specs.declared.record.Record.{Record}
use Rattle.hc_log.specs.declared.stored.Stored.{Stored}
use Rattle.hc_log.specs.Durable.{replay}
use Rattle.hc_member.specs.Member.{Member, anew}
use Rattle.hc_aggregate.specs.Tally.{Tally, no_tally}
use Rattle.hc_rules.specs.Message.{Report, Reply, Request}
use Rattle.hc_run.specs.Group.{Group}

-- one member's place in a group: the records that it stored, in their order, and what it is while it is up
pub record Replica : Type 0 where
  pub journal : List Record
  pub member : Option Member

-- a member applied an entry at an index
pub record Passed : Type 0 where
  pub member : ℕ
  pub index : ℕ
  pub stored : Stored

-- a group: its members, by their numbers; what its aggregator counts; all datagrams that were ever sent, numbered from 0 in the order
-- of their sending; the requests of clients, in the order of their first sending; and, the newest first, what members applied, the
-- replies that they sent, each with the length of the table then as its place, and what leaders learnt
pub record GroupState : Type 0 where
  pub replicas : List Replica
  pub tally : Tally
  pub datagrams : List Datagram
  pub table : List Request
  pub passed : List Passed
  pub replied : List Reply
  pub reports : List Report
  pub events : ℕ
  pub crashes : ℕ

-- a member that is down keeps its journal alone
abbrev pub stopped : List Record → Replica
stopped journal = record { journal = journal; member = None }

-- a member that begins with a journal
abbrev pub started : List Record → Replica
started journal = record { journal = journal; member = Some (anew (replay journal)) }

-- a group of which nobody has done anything yet: its members are up, with empty journals
abbrev pub beginning : Group → GroupState
beginning g =
    record {
      replicas = replicate (length g.members) (started []);
      tally = no_tally (length g.members);
      datagrams = [];
      table = [];
      passed = [];
      replied = [];
      reports = [];
      events = 0;
      crashes = 0;
    }

-- the place of the member with this number
abbrev pub replica_at : GroupState → ℕ → Replica
replica_at s v = slice_index_or s.replicas v (stopped [])

-- its journal
abbrev pub journal_at : GroupState → ℕ → List Record
journal_at s v = (replica_at s v).journal

-- what it is, where it is up
abbrev pub member_at : GroupState → ℕ → Option Member
member_at s v = (replica_at s v).member

-- whether it is up
abbrev pub is_up : GroupState → ℕ → Bool
is_up s v = is_some (member_at s v)

-- a group of which one member has changed
abbrev pub with_replica : GroupState → ℕ → Replica → GroupState
with_replica s v replica = record s { replicas = slice_set s.replicas v replica }
