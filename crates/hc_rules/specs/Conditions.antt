-- When each step may be made: the conditions of each rule by name.
use Rattle.std.specs.Prelude.{◌≡◌, ◌≢◌, ◌⊎◌, ℕ, suc, ◌+◌, ◌<◌, ◌≤◌, true, false, ◌==◌, ◌||◌, nat_le, List, length, Some, None}
use Rattle.r2_base.specs.declared.rid.Rid.{Rid}
use Rattle.r2_base.specs.declared.entry.Entry.{Entry}
use Rattle.r2_base.specs.Entry.{is_request}
use Rattle.hc_store.specs.Replies.{reply_at}
use Rattle.hc_rules.specs.Log.{In, HaveTerms, IsNotAhead, Lacks, StandsIn, entry_at, last_term, term_at}
use Rattle.hc_rules.specs.Majority.{IsMajority}
use Rattle.hc_rules.specs.Message.{VoteRequest, Order, Ack, AggregateCommit, Request, Reply}
use Rattle.hc_rules.specs.Requests.{IsKnown, operations}
use Rattle.hc_rules.specs.Rules.{Rule, Rise, Stand, AskVotes, GrantVote, SendVote, CountVote, Win, OrderRequest, SendOrder, Confirm, Take, Acknowledge, CommitByCount, CommitByOrder, CommitByAggregate, Aggregate, Apply, Answer, AnswerAgain, AskBody, GiveBody, Yield, NoteReport, NoteOwnReport, NoteAck, Hold, Refuse, RejectOrder, Follow, NoteOrder, Collect, Forget, Crash, Restart, SendRequest, vote_of}
use Rattle.hc_rules.specs.Protocol.{ProtocolState, Follower, Candidate, Leader, acked, told, unreported}

-- a member of the group that is up
pub record CanAct (w : ProtocolState) (v : ℕ) : Type 0 where
  pub member : v < w.size
  pub runs : w.up v ≡ true

-- a member that is up and leads
pub record Leads (w : ProtocolState) (v : ℕ) : Type 0 where
  pub acts : CanAct w v
  pub leads : w.role v ≡ Leader

-- a member that is up and stands for election
pub record Competes (w : ProtocolState) (v : ℕ) : Type 0 where
  pub acts : CanAct w v
  pub competes : w.role v ≡ Candidate

-- a member that is up and doesn't lead, where an Order of its term was sent
pub record Hears (w : ProtocolState) (v : ℕ) (o : Order) : Type 0 where
  pub acts : CanAct w v
  pub follows : w.role v ≢ Leader
  pub sent : In o w.orders
  pub current : o.term ≡ w.term v

-- a member rises to a term above its own (Raft, section 5.1)
pub record MayRise (w : ProtocolState) (v s : ℕ) : Type 0 where
  pub acts : CanAct w v
  pub higher : w.term v < s

-- a member that doesn't lead may stand for election, however long it waited (Raft, section 5.2)
pub record MayStand (w : ProtocolState) (v : ℕ) : Type 0 where
  pub acts : CanAct w v
  pub follows : w.role v ≢ Leader

-- a follower votes for a candidate of its term that asked, where its vote is free or that candidate's already, and its own
-- log isn't ahead (Raft, sections 5.2 and 5.4.1)
pub record MayGrant (w : ProtocolState) (v : ℕ) (q : VoteRequest) : Type 0 where
  pub acts : CanAct w v
  pub follows : w.role v ≡ Follower
  pub sent : In q w.vote_requests
  pub current : q.term ≡ w.term v
  pub free : (w.vote v ≡ None) ⊎ (w.vote v ≡ Some q.candidate)
  pub recent : IsNotAhead (last_term (w.log v)) (length (w.log v)) q.last_term q.last_index

-- a member sends its vote to the member that it voted for (Raft, section 5.2)
pub record MaySendVote (w : ProtocolState) (v c : ℕ) : Type 0 where
  pub acts : CanAct w v
  pub voted : w.vote v ≡ Some c

-- a candidate counts a vote of its term that was sent to it (Raft, section 5.2)
pub record MayCount (w : ProtocolState) (v c : ℕ) : Type 0 where
  pub competes : Competes w v
  pub sent : In (vote_of (w.term v) c v) w.votes

-- a candidate that counted a majority wins (Raft, section 5.2)
pub record MayWin (w : ProtocolState) (v : ℕ) : Type 0 where
  pub competes : Competes w v
  pub majority : IsMajority w.size (w.counted v)

-- a leader orders a request of the table that it holds and its log lacks, for a member with fewer unreported than its bound
-- (Raft, section 5.3; HovercRaft, on bounded queues)
pub record MayOrder (w : ProtocolState) (v : ℕ) (q : Request) (p : ℕ) : Type 0 where
  pub leads : Leads w v
  pub known : In q w.table
  pub held : In q.rid (w.pool v)
  pub fresh : Lacks q.rid (w.log v)
  pub member : p < w.size
  pub room : length (unreported w v p) < w.bound p

-- a leader sends any slice of its log (Raft, section 5.3)
pub record MaySendOrder (w : ProtocolState) (v previous count : ℕ) : Type 0 where
  pub leads : Leads w v
  pub within : previous + count ≤ length (w.log v)

-- the log has, by their terms, what comes before the Order's entries and the first k of these
pub record Fits (log : List Entry) (o : Order) (k : ℕ) : Type 0 where
  pub count : k ≤ length o.entries
  pub within : o.previous + k ≤ length log
  pub previous : term_at log o.previous ≡ o.previous_term
  pub entries : HaveTerms k o.previous log o.entries

-- a member finds the first k entries of an Order in its log (Raft, section 5.3)
pub record MayConfirm (w : ProtocolState) (v : ℕ) (o : Order) (k : ℕ) : Type 0 where
  pub hears : Hears w v o
  pub fits : Fits (w.log v) o k

-- the log has an entry of another term, or none, where the Order has its entry i + 1 (Raft, section 5.3); what it has from
-- there on is neither committed, so far as the member knows, nor known to be the leader's
pub record Conflicts (w : ProtocolState) (v : ℕ) (o : Order) (i : ℕ) : Type 0 where
  pub told : i < length o.entries
  pub differs : term_at (w.log v) (suc (o.previous + i)) ≢ term_at o.entries (suc i)
  pub committed : w.commit v ≤ o.previous + i
  pub matched : w.matched v ≤ o.previous + i

-- the body of a request is in the pool, or its entry in the log
abbrev pub Holds : List Rid → List Entry → Rid → Type 0
Holds pool log rid = In rid pool ⊎ StandsIn rid log

-- the bodies of the requests after the first i of these entries, up to k, are held
abbrev pub AreHeld : List Rid → List Entry → List Entry → ℕ → ℕ → Type 0
AreHeld pool log entries i k =
    (j : ℕ) → i ≤ j → j < k → is_request (entry_at entries (suc j)).kind ≡ true → Holds pool log (entry_at entries (suc j)).rid

-- a member takes entries of an Order whose bodies it holds: its log ends after the first i, or is cut there at a conflict
-- (Raft, section 5.3; HovercRaft, on separating replication from order)
pub record MayTake (w : ProtocolState) (v : ℕ) (o : Order) (i k : ℕ) : Type 0 where
  pub hears : Hears w v o
  pub fits : Fits (w.log v) o i
  pub order : i ≤ k
  pub count : k ≤ length o.entries
  pub cut : (length (w.log v) ≡ o.previous + i) ⊎ Conflicts w v o i
  pub bodies : AreHeld (w.pool v) (w.log v) o.entries i k

-- a member acknowledges no more than it matched; a leader needs no acknowledgement of its own (Raft, section 5.3)
pub record MayAcknowledge (w : ProtocolState) (v m : ℕ) : Type 0 where
  pub acts : CanAct w v
  pub follows : w.role v ≢ Leader
  pub within : m ≤ w.matched v

-- a leader finds that a majority, itself among them, have an entry of its own term (Raft, sections 5.3 and 5.4.2)
pub record MayCommit (w : ProtocolState) (v m : ℕ) : Type 0 where
  pub leads : Leads w v
  pub own : w.start v ≤ m
  pub within : m ≤ length (w.log v)
  pub backed : IsMajority w.size (λ p. (p == v) || nat_le m (acked w.acks (w.term v) p))

-- a member learns from an Order of its term that what it matched is committed (Raft, section 5.3)
pub record MayLearn (w : ProtocolState) (v : ℕ) (o : Order) (m : ℕ) : Type 0 where
  pub acts : CanAct w v
  pub sent : In o w.orders
  pub current : o.term ≡ w.term v
  pub told : m ≤ o.commit
  pub within : m ≤ w.matched v

-- a member learns from the aggregator's word for its term that what it matched is committed (HovercRaft, on in-network
-- aggregation)
pub record MayLearnAggregate (w : ProtocolState) (v : ℕ) (a : AggregateCommit) (m : ℕ) : Type 0 where
  pub acts : CanAct w v
  pub sent : In a w.aggregates
  pub current : a.term ≡ w.term v
  pub told : m ≤ a.index
  pub matched : m ≤ w.matched v

-- the aggregator finds that a majority have an entry from the leader's own first one on, by Orders and acknowledgements of
-- the Order's term (HovercRaft, on in-network aggregation; Raft, section 5.4.2)
pub record MayAggregate (w : ProtocolState) (o : Order) (m : ℕ) : Type 0 where
  pub sent : In o w.orders
  pub own : o.start ≤ m
  pub backed : IsMajority w.size (λ p. nat_le m (told w.orders o.term p) || nat_le m (acked w.acks o.term p))

-- a member applies what it knows to be committed (Raft, section 5.3)
pub record MayApply (w : ProtocolState) (v : ℕ) : Type 0 where
  pub acts : CanAct w v
  pub due : w.applied v < w.commit v

-- a member answers an entry that it has applied and is to answer, as the one-thread service does (HovercRaft, on load
-- balancing of replies)
pub record MayAnswer (w : ProtocolState) (v index : ℕ) (payload : List ℕ) : Type 0 where
  pub acts : CanAct w v
  pub applied : index ≤ w.applied v
  pub replier : (entry_at (w.log v) index).replier ≡ v
  pub right : reply_at (operations w.table (w.log v)) index ≡ Some payload

-- a member that has applied an entry, and is to answer it, repeats a reply (this project's own)
pub record MayAnswerAgain (w : ProtocolState) (v : ℕ) (r : Reply) (e : Entry) : Type 0 where
  pub acts : CanAct w v
  pub sent : In r w.replied
  pub passed : In (record { member = v; index = r.index; entry = e }) w.passed
  pub request : e.rid ≡ r.request
  pub replier : e.replier ≡ v

-- a member asks for a body (HovercRaft, on recovery of lost requests)
pub record MayAsk (w : ProtocolState) (v : ℕ) (rid : Rid) : Type 0 where
  pub acts : CanAct w v
  pub known : IsKnown w.table rid

-- a member gives a body that it holds (HovercRaft, on recovery of lost requests)
pub record MayGive (w : ProtocolState) (v : ℕ) (rid : Rid) : Type 0 where
  pub acts : CanAct w v
  pub held : Holds (w.pool v) (w.log v) rid

-- a candidate hears of its term's leader (Raft, section 5.2)
pub record MayYield (w : ProtocolState) (v : ℕ) (o : Order) : Type 0 where
  pub competes : Competes w v
  pub sent : In o w.orders
  pub current : o.term ≡ w.term v

-- a leader learns from an acknowledgement of its term how far a member has applied (HovercRaft, on bounded queues)
pub record MayNoteReport (w : ProtocolState) (v : ℕ) (a : Ack) : Type 0 where
  pub leads : Leads w v
  pub sent : In a w.acks
  pub of_term : a.term ≡ w.term v

-- a leader notes the index of an acknowledgement of its term (Raft, section 5.3)
pub record MayNoteAck (w : ProtocolState) (v : ℕ) (a : Ack) : Type 0 where
  pub leads : Leads w v
  pub sent : In a w.acks
  pub current : a.term ≡ w.term v

-- a member's pool is what clients sent
pub record MayHold (w : ProtocolState) (v : ℕ) (rids : List Rid) : Type 0 where
  pub acts : CanAct w v
  pub known : (rid : Rid) → In rid rids → IsKnown w.table rid

-- the aggregator goes on to the term of an Order (HovercRaft, on in-network aggregation)
pub record MayFollow (w : ProtocolState) (o : Order) : Type 0 where
  pub sent : In o w.orders
  pub higher : w.aggregator.term < o.term

-- the aggregator notes what an Order of its term shows of the leader
pub record MayNoteOrder (w : ProtocolState) (o : Order) : Type 0 where
  pub sent : In o w.orders
  pub current : o.term ≡ w.aggregator.term

-- the aggregator notes an acknowledgement of its term
pub record MayCollect (w : ProtocolState) (a : Ack) : Type 0 where
  pub sent : In a w.acks
  pub current : a.term ≡ w.aggregator.term

-- a member that stopped begins again (Raft, section 5.5)
pub record MayRestart (w : ProtocolState) (v : ℕ) : Type 0 where
  pub member : v < w.size
  pub stopped : w.up v ≡ false

-- a client sends a request under an id that was not used, and asks for something
pub record MaySend (w : ProtocolState) (q : Request) : Type 0 where
  pub fresh : IsKnown w.table q.rid → ⊥
  pub asks : is_request q.kind ≡ true

-- the step may be made
abbrev pub Allowed : ProtocolState → Rule → Type 0
Allowed w (Rise v s) = MayRise w v s
Allowed w (Stand v) = MayStand w v
Allowed w (AskVotes v) = Competes w v
Allowed w (GrantVote v q) = MayGrant w v q
Allowed w (SendVote v c) = MaySendVote w v c
Allowed w (CountVote v c) = MayCount w v c
Allowed w (Win v) = MayWin w v
Allowed w (OrderRequest v q p) = MayOrder w v q p
Allowed w (SendOrder v previous count) = MaySendOrder w v previous count
Allowed w (Confirm v o k) = MayConfirm w v o k
Allowed w (Take v o i k) = MayTake w v o i k
Allowed w (Acknowledge v m) = MayAcknowledge w v m
Allowed w (CommitByCount v m) = MayCommit w v m
Allowed w (CommitByOrder v o m) = MayLearn w v o m
Allowed w (CommitByAggregate v a m) = MayLearnAggregate w v a m
Allowed w (Aggregate o m) = MayAggregate w o m
Allowed w (Apply v) = MayApply w v
Allowed w (Answer v index payload) = MayAnswer w v index payload
Allowed w (AnswerAgain v r e) = MayAnswerAgain w v r e
Allowed w (AskBody v rid) = MayAsk w v rid
Allowed w (GiveBody v rid) = MayGive w v rid
Allowed w (Yield v o) = MayYield w v o
Allowed w (NoteReport v a) = MayNoteReport w v a
Allowed w (NoteOwnReport v) = Leads w v
Allowed w (NoteAck v a) = MayNoteAck w v a
Allowed w (Hold v rids) = MayHold w v rids
Allowed w (Refuse v) = CanAct w v
Allowed w (RejectOrder v hint) = CanAct w v
Allowed w (Follow o) = MayFollow w o
Allowed w (NoteOrder o) = MayNoteOrder w o
Allowed w (Collect a) = MayCollect w a
Allowed w Forget = Unit {0}
Allowed w (Crash v) = CanAct w v
Allowed w (Restart v) = MayRestart w v
Allowed w (SendRequest q) = MaySend w q
