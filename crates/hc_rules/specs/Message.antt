-- The messages between members, and what the laws remember of a run.
use Rattle.std.specs.Prelude.{ℕ, Bool, List}
use Rattle.r2_base.specs.declared.rid.Rid.{Rid}
use Rattle.r2_base.specs.declared.entry.Kind.{Kind}
use Rattle.r2_base.specs.declared.entry.Entry.{Entry}

-- a candidate asks for votes, and says where its log ends (Raft, section 5.2)
pub record VoteRequest : Type 0 where
  pub term : ℕ
  pub candidate : ℕ
  pub last_index : ℕ
  pub last_term : ℕ

-- a granted vote
pub record Vote : Type 0 where
  pub term : ℕ
  pub voter : ℕ
  pub candidate : ℕ

-- a leader sends a slice of its log (Raft, section 5.3; without the bodies: HovercRaft, on separating replication from
-- order): what comes before it, the index of the leader's own first entry, and how much is committed
pub record Order : Type 0 where
  pub term : ℕ
  pub leader : ℕ
  pub previous : ℕ
  pub previous_term : ℕ
  pub start : ℕ
  pub commit : ℕ
  pub entries : List Entry

-- a member says up to which index its log is the leader's, and up to which it has applied
pub record Ack : Type 0 where
  pub term : ℕ
  pub member : ℕ
  pub index : ℕ
  pub applied : ℕ

-- the aggregator says what a majority of a term acknowledged (HovercRaft, on in-network aggregation)
pub record AggregateCommit : Type 0 where
  pub term : ℕ
  pub index : ℕ

-- a member refuses its vote
pub record Refusal : Type 0 where
  pub term : ℕ
  pub voter : ℕ

-- a member couldn't take an Order, and says how far its log might go
pub record Nack : Type 0 where
  pub term : ℕ
  pub member : ℕ
  pub hint : ℕ

-- what a client asks for: the request's id, its kind and its body
pub record Request : Type 0 where
  pub rid : Rid
  pub kind : Kind
  pub body : List ℕ

-- a vote that was given: to whom, the voter's log then, and whether the term had been won already
pub record Grant : Type 0 where
  pub candidate : ℕ
  pub log : List Entry
  pub late : Bool

-- a leader learnt in its term how far a member has applied
pub record Report : Type 0 where
  pub leader : ℕ
  pub term : ℕ
  pub member : ℕ
  pub index : ℕ

-- a member applied an entry at an index
pub record Passed : Type 0 where
  pub member : ℕ
  pub index : ℕ
  pub entry : Entry

-- a reply went out when the table of requests had so many (its place)
pub record Reply : Type 0 where
  pub request : Rid
  pub index : ℕ
  pub payload : List ℕ
  pub place : ℕ

-- what the aggregator keeps: the term that it counts in, its leader, the index of the leader's own first entry, and the
-- index that each member is known to have
pub record Aggregator : Type 0 where
  pub term : ℕ
  pub leader : ℕ
  pub start : ℕ
  pub reached : ℕ → ℕ
