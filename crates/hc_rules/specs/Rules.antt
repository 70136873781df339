-- The rules: what each step of the protocol changes in the state. The conditions say when a step may be made.
use Rattle.std.specs.Prelude.{ℕ, suc, ◌+◌, true, false, max, min, ◌==◌, is_some, List, [], ◌∷◌, ◌++◌, length, take, drop, Option, Some, None}
use Rattle.std.specs.Option.{unwrap_or}
use Rattle.r2_base.specs.declared.rid.Rid.{Rid}
use Rattle.r2_base.specs.declared.entry.Entry.{Entry}
use Rattle.r2_base.specs.Entry.{blank_entry}
use Rattle.hc_rules.specs.Log.{entry_at, last_term, term_at}
use Rattle.hc_rules.specs.Message.{VoteRequest, Vote, Order, Ack, AggregateCommit, Request, Grant, Report, Passed, Reply, Aggregator}
use Rattle.hc_rules.specs.Protocol.{ProtocolState, Follower, Candidate, Leader, new_aggregator, put}

-- the steps. v is the member that makes one
pub data Rule : Type 0 where
  -- v learns of a greater term s (Raft, section 5.1)
  Rise : (v s : ℕ) → Rule
  -- v becomes a candidate of the next term (Raft, section 5.2)
  Stand : (v : ℕ) → Rule
  -- a candidate asks for votes (Raft, section 5.2)
  AskVotes : (v : ℕ) → Rule
  -- v gives its vote to the candidate that asked (Raft, sections 5.2 and 5.4.1)
  GrantVote : (v : ℕ) → VoteRequest → Rule
  -- v sends its vote to a candidate; it may do so again (Raft, section 5.2)
  SendVote : (v c : ℕ) → Rule
  -- a candidate counts the vote of c (Raft, section 5.2)
  CountVote : (v c : ℕ) → Rule
  -- a candidate with a majority of votes leads, and appends a blank entry (Raft, sections 5.2 and 8)
  Win : (v : ℕ) → Rule
  -- a leader appends a request's entry, to be answered by p (Raft, section 5.3; HovercRaft, on load balancing of replies)
  OrderRequest : (v : ℕ) → Request → (p : ℕ) → Rule
  -- a leader sends so many entries after an index (Raft, section 5.3)
  SendOrder : (v previous count : ℕ) → Rule
  -- v finds the first k entries of an Order in its log already (Raft, section 5.3)
  Confirm : (v : ℕ) → Order → (k : ℕ) → Rule
  -- v finds the first i entries of an Order in its log, cuts what is after them, and appends those up to k (Raft, section 5.3)
  Take : (v : ℕ) → Order → (i k : ℕ) → Rule
  -- v acknowledges an index (Raft, section 5.3)
  Acknowledge : (v m : ℕ) → Rule
  -- a leader finds an entry of its own term at a majority (Raft, sections 5.3 and 5.4.2)
  CommitByCount : (v m : ℕ) → Rule
  -- v learns from an Order what is committed (Raft, section 5.3)
  CommitByOrder : (v : ℕ) → Order → (m : ℕ) → Rule
  -- v learns it from the aggregator (HovercRaft, on in-network aggregation)
  CommitByAggregate : (v : ℕ) → AggregateCommit → (m : ℕ) → Rule
  -- the aggregator finds an entry of an Order's term at a majority (HovercRaft, on in-network aggregation)
  Aggregate : Order → (m : ℕ) → Rule
  -- v applies the next committed entry (Raft, section 5.3)
  Apply : (v : ℕ) → Rule
  -- v answers the request at an index, as its replier (HovercRaft, on load balancing of replies)
  Answer : (v index : ℕ) → (payload : List ℕ) → Rule
  -- v answers a request again with the same bytes (this project's own)
  AnswerAgain : (v : ℕ) → Reply → Entry → Rule
  -- v asks for a body that it lacks, and gives one that it holds (HovercRaft, on recovery of lost requests)
  AskBody : (v : ℕ) → Rid → Rule
  GiveBody : (v : ℕ) → Rid → Rule
  -- a candidate hears of its term's leader (Raft, section 5.2)
  Yield : (v : ℕ) → Order → Rule
  -- a leader learns how far a member, or itself, has applied (HovercRaft, on bounded queues)
  NoteReport : (v : ℕ) → Ack → Rule
  NoteOwnReport : (v : ℕ) → Rule
  -- a leader notes an acknowledgement (Raft, section 5.3)
  NoteAck : (v : ℕ) → Ack → Rule
  -- v's pool is now this: what it holds carries no promise but to be the clients' (this project's own)
  Hold : (v : ℕ) → List Rid → Rule
  -- v refuses a vote, or an Order; neither carries a promise (Raft, sections 5.2 and 5.3)
  Refuse : (v : ℕ) → Rule
  RejectOrder : (v hint : ℕ) → Rule
  -- the aggregator begins to count in an Order's term, notes what an Order shows, notes an acknowledgement, and forgets all
  -- (HovercRaft, on in-network aggregation; forgetting is this project's own)
  Follow : Order → Rule
  NoteOrder : Order → Rule
  Collect : Ack → Rule
  Forget : Rule
  -- v stops, and begins again with what it kept (Raft, section 5.5; figure 2 on persistent state)
  Crash : (v : ℕ) → Rule
  Restart : (v : ℕ) → Rule
  -- a client sends a request for the first time (HovercRaft, on separating replication from order)
  SendRequest : Request → Rule

-- the candidate's request for votes
abbrev pub vote_request : ProtocolState → ℕ → VoteRequest
vote_request w v =
    record { term = w.term v; candidate = v; last_index = length (w.log v); last_term = last_term (w.log v) }

-- the vote of a member for a candidate at a term
abbrev pub vote_of : ℕ → ℕ → ℕ → Vote
vote_of t v c = record { term = t; voter = v; candidate = c }

-- a grant by v to c at a term
abbrev pub grant_of : ProtocolState → ℕ → ℕ → ℕ → Grant
grant_of w t v c = record { candidate = c; log = w.log v; late = is_some (w.winner t) }

-- the votes with one of v at a term, unless there is one
abbrev pub with_grant : (ℕ → ℕ → Option Grant) → ℕ → ℕ → Grant → ℕ → ℕ → Option Grant
with_grant granted t v g = put granted t (put (granted t) v (Some (unwrap_or (granted t v) g)))

-- the entry of a request in a leader's log
abbrev pub entry_of : ℕ → Request → ℕ → Entry
entry_of t q p = record { term = t; kind = q.kind; rid = q.rid; replier = p }

-- the Order that a leader sends
abbrev pub order_of : ProtocolState → ℕ → ℕ → ℕ → Order
order_of w v previous count =
    record {
      term = w.term v;
      leader = v;
      previous = previous;
      previous_term = term_at (w.log v) previous;
      start = w.start v;
      commit = w.commit v;
      entries = take count (drop previous (w.log v));
    }

-- a log that keeps what is before an Order's entry i + 1, and has the Order's entries up to k
abbrev pub taken : List Entry → Order → ℕ → ℕ → List Entry
taken log o i k = take (o.previous + i) log ++ drop i (take k o.entries)

-- a member's acknowledgement of an index
abbrev pub ack_of : ProtocolState → ℕ → ℕ → Ack
ack_of w v m = record { term = w.term v; member = v; index = m; applied = w.applied v }

-- the entry that a member applies next
abbrev pub next_passed : ProtocolState → ℕ → Passed
next_passed w v = record { member = v; index = suc (w.applied v); entry = entry_at (w.log v) (suc (w.applied v)) }

-- a reply that goes out now
abbrev pub reply_of : ProtocolState → Rid → ℕ → List ℕ → Reply
reply_of w request index payload = record { request = request; index = index; payload = payload; place = length w.table }

-- what a leader learnt of a member
abbrev pub report_of : ProtocolState → ℕ → ℕ → ℕ → Report
report_of w v p index = record { leader = v; term = w.term v; member = p; index = index }

-- the aggregator at the beginning of an Order's term
abbrev pub following : Order → Aggregator
following o = record { term = o.term; leader = o.leader; start = o.start; reached = λ p. 0 }

-- the aggregator with an index that a member has reached
abbrev pub reaching : Aggregator → ℕ → ℕ → Aggregator
reaching a p index = record a { reached = put a.reached p (max (a.reached p) index) }

-- v has a greater term, and has done nothing in it
abbrev pub risen : ProtocolState → ℕ → ℕ → ProtocolState
risen w v s =
    record w {
      term = put w.term v s;
      vote = put w.vote v None;
      role = put w.role v Follower;
      counted = put w.counted v (λ c. false);
      matched = put w.matched v 0;
    }

-- v is a candidate of the next term, and voted for itself
abbrev pub stood : ProtocolState → ℕ → ProtocolState
stood w v =
    record w {
      term = put w.term v (suc (w.term v));
      vote = put w.vote v (Some v);
      role = put w.role v Candidate;
      counted = put w.counted v (λ c. c == v);
      matched = put w.matched v 0;
      granted = with_grant w.granted (suc (w.term v)) v (grant_of w (suc (w.term v)) v v);
    }

-- v voted for c
abbrev pub having_voted : ProtocolState → ℕ → ℕ → ProtocolState
having_voted w v c =
    record w {
      vote = put w.vote v (Some c);
      granted = with_grant w.granted (w.term v) v (grant_of w (w.term v) v c);
    }

-- v leads: its log is the term's base, and with a blank entry its book
abbrev pub won : ProtocolState → ℕ → ProtocolState
won w v =
    record w {
      role = put w.role v Leader;
      winner = put w.winner (w.term v) (Some v);
      base = put w.base (w.term v) (w.log v);
      log = put w.log v (w.log v ++ blank_entry (w.term v) ∷ []);
      book = put w.book (w.term v) (w.log v ++ blank_entry (w.term v) ∷ []);
      matched = put w.matched v (suc (length (w.log v)));
      start = put w.start v (suc (length (w.log v)));
      reached = put w.reached v (λ p. 0);
    }

-- a leader's log, and its term's book, have one entry more
abbrev pub ordered : ProtocolState → ℕ → Entry → ProtocolState
ordered w v e =
    record w {
      log = put w.log v (w.log v ++ e ∷ []);
      book = put w.book (w.term v) (w.book (w.term v) ++ e ∷ []);
      matched = put w.matched v (suc (length (w.log v)));
    }

-- v has this log, which is its leader's up to an index
abbrev pub matching : ProtocolState → ℕ → List Entry → ℕ → ProtocolState
matching w v log index =
    record w {
      role = put w.role v Follower;
      log = put w.log v log;
      matched = put w.matched v (max (w.matched v) index);
    }

-- v knows that so much is committed
abbrev pub committed : ProtocolState → ℕ → ℕ → ProtocolState
committed w v m = record w { commit = put w.commit v (max (w.commit v) m) }

-- a reply went out
abbrev pub answered : ProtocolState → Rid → ℕ → List ℕ → ProtocolState
answered w request index payload = record w { replied = reply_of w request index payload ∷ w.replied }

-- a leader learnt how far a member has applied
abbrev pub learnt : ProtocolState → ℕ → ℕ → ℕ → ProtocolState
learnt w v p index = record w { reports = report_of w v p index ∷ w.reports }

-- a leader holds an index of its log to be reached by a member
abbrev pub noted : ProtocolState → ℕ → ℕ → ℕ → ProtocolState
noted w v p index =
    record w {
      reached = put w.reached v (put (w.reached v) p (max (w.reached v p) (min index (length (w.log v)))));
    }

-- v has stopped, and lost all but its term, its vote and its log
abbrev pub crashed : ProtocolState → ℕ → ProtocolState
crashed w v =
    record w {
      up = put w.up v false;
      role = put w.role v Follower;
      counted = put w.counted v (λ c. false);
      matched = put w.matched v 0;
      commit = put w.commit v 0;
      applied = put w.applied v 0;
      start = put w.start v 0;
      reached = put w.reached v (λ p. 0);
      pool = put w.pool v [];
    }

-- the state after a step, rule by rule
abbrev pub after : ProtocolState → Rule → ProtocolState
after w (Rise v s) = risen w v s
after w (Stand v) = stood w v
after w (AskVotes v) = record w { vote_requests = vote_request w v ∷ w.vote_requests }
after w (GrantVote v q) = having_voted w v q.candidate
after w (SendVote v c) = record w { votes = vote_of (w.term v) v c ∷ w.votes }
after w (CountVote v c) = record w { counted = put w.counted v (put (w.counted v) c true) }
after w (Win v) = won w v
after w (OrderRequest v q p) = ordered w v (entry_of (w.term v) q p)
after w (SendOrder v previous count) = record w { orders = order_of w v previous count ∷ w.orders }
after w (Confirm v o k) =
    record w { role = put w.role v Follower; matched = put w.matched v (max (w.matched v) (o.previous + k)) }
after w (Take v o i k) = matching w v (taken (w.log v) o i k) (o.previous + k)
after w (Acknowledge v m) = record w { acks = ack_of w v m ∷ w.acks }
after w (CommitByCount v m) = committed w v m
after w (CommitByOrder v o m) = committed w v m
after w (CommitByAggregate v a m) = committed w v m
after w (Aggregate o m) = record w { aggregates = record { term = o.term; index = m } ∷ w.aggregates }
after w (Apply v) = record w { applied = put w.applied v (suc (w.applied v)); passed = next_passed w v ∷ w.passed }
after w (Answer v index payload) = answered w (entry_at (w.log v) index).rid index payload
after w (AnswerAgain v r e) = answered w r.request r.index r.payload
after w (AskBody v rid) = record w { asked = rid ∷ w.asked }
after w (GiveBody v rid) = record w { bodies = rid ∷ w.bodies }
after w (Yield v o) = record w { role = put w.role v Follower }
after w (NoteReport v a) = learnt w v a.member a.applied
after w (NoteOwnReport v) = learnt w v v (w.applied v)
after w (NoteAck v a) = noted w v a.member a.index
after w (Hold v rids) = record w { pool = put w.pool v rids }
after w (Refuse v) = record w { refusals = record { term = w.term v; voter = v } ∷ w.refusals }
after w (RejectOrder v hint) = record w { nacks = record { term = w.term v; member = v; hint = hint } ∷ w.nacks }
after w (Follow o) = record w { aggregator = following o }
after w (NoteOrder o) = record w { aggregator = reaching w.aggregator o.leader (o.previous + length o.entries) }
after w (Collect a) = record w { aggregator = reaching w.aggregator a.member a.index }
after w Forget = record w { aggregator = new_aggregator }
after w (Crash v) = crashed w v
after w (Restart v) = record w { up = put w.up v true }
after w (SendRequest q) = record w { table = w.table ++ q ∷ [] }
