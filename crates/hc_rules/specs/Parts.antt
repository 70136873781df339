-- What a step leaves: the parts of the state that each rule changes, by name; all others stay.
use Rattle.std.specs.Prelude.{◌≡◌, ◌≢◌, ℕ, ◌≤◌, Bool, false, ◌==◌, ◌||◌, List, [], ◌∷◌, ◌++◌, length, Option, Some}
use Rattle.r2_base.specs.declared.rid.Rid.{Rid}
use Rattle.r2_base.specs.declared.entry.Entry.{Entry}
use Rattle.hc_rules.specs.Log.{In, Share}
use Rattle.hc_rules.specs.Message.{VoteRequest, Vote, Order, Ack, AggregateCommit, Refusal, Nack, Request, Grant, Report, Passed, Reply}
use Rattle.hc_rules.specs.Rules.{Rule, Rise, Stand, AskVotes, GrantVote, SendVote, CountVote, Win, OrderRequest, SendOrder, Confirm, Take, Acknowledge, CommitByCount, CommitByOrder, CommitByAggregate, Aggregate, Apply, Answer, AnswerAgain, AskBody, GiveBody, Yield, NoteReport, NoteOwnReport, NoteAck, Hold, Refuse, RejectOrder, Follow, NoteOrder, Collect, Forget, Crash, Restart, SendRequest}
use Rattle.hc_rules.specs.Protocol.{ProtocolState, Role, Follower, acked}

-- the parts of the state, by their names there
pub data Part : Type 0 where
  Terms VoteOfTerm Logs Up Roles Counted Matched Commits Applied Starts Reached Pools : Part
  TheAggregator VoteRequests Votes Orders Acks Aggregates Refusals Nacks Asked Bodies Table : Part
  Winners Bases Books Grants Reports Passes Replies : Part

-- the number of a part
abbrev pub part_number : Part → ℕ
part_number Terms = 0
part_number VoteOfTerm = 1
part_number Logs = 2
part_number Up = 3
part_number Roles = 4
part_number Counted = 5
part_number Matched = 6
part_number Commits = 7
part_number Applied = 8
part_number Starts = 9
part_number Reached = 10
part_number Pools = 11
part_number TheAggregator = 12
part_number VoteRequests = 13
part_number Votes = 14
part_number Orders = 15
part_number Acks = 16
part_number Aggregates = 17
part_number Refusals = 18
part_number Nacks = 19
part_number Asked = 20
part_number Bodies = 21
part_number Table = 22
part_number Winners = 23
part_number Bases = 24
part_number Books = 25
part_number Grants = 26
part_number Reports = 27
part_number Passes = 28
part_number Replies = 29

-- two states have the same there
abbrev pub Same : Part → ProtocolState → ProtocolState → Type 0
Same Terms w x = x.term ≡ w.term
Same VoteOfTerm w x = x.vote ≡ w.vote
Same Logs w x = x.log ≡ w.log
Same Up w x = x.up ≡ w.up
Same Roles w x = x.role ≡ w.role
Same Counted w x = x.counted ≡ w.counted
Same Matched w x = x.matched ≡ w.matched
Same Commits w x = x.commit ≡ w.commit
Same Applied w x = x.applied ≡ w.applied
Same Starts w x = x.start ≡ w.start
Same Reached w x = x.reached ≡ w.reached
Same Pools w x = x.pool ≡ w.pool
Same TheAggregator w x = x.aggregator ≡ w.aggregator
Same VoteRequests w x = x.vote_requests ≡ w.vote_requests
Same Votes w x = x.votes ≡ w.votes
Same Orders w x = x.orders ≡ w.orders
Same Acks w x = x.acks ≡ w.acks
Same Aggregates w x = x.aggregates ≡ w.aggregates
Same Refusals w x = x.refusals ≡ w.refusals
Same Nacks w x = x.nacks ≡ w.nacks
Same Asked w x = x.asked ≡ w.asked
Same Bodies w x = x.bodies ≡ w.bodies
Same Table w x = x.table ≡ w.table
Same Winners w x = x.winner ≡ w.winner
Same Bases w x = x.base ≡ w.base
Same Books w x = x.book ≡ w.book
Same Grants w x = x.granted ≡ w.granted
Same Reports w x = x.reports ≡ w.reports
Same Passes w x = x.passed ≡ w.passed
Same Replies w x = x.replied ≡ w.replied

-- the parts that a rule changes
abbrev pub changed_by : Rule → List Part
changed_by (Rise v s) = Terms ∷ VoteOfTerm ∷ Roles ∷ Counted ∷ Matched ∷ []
changed_by (Stand v) = Terms ∷ VoteOfTerm ∷ Roles ∷ Counted ∷ Matched ∷ Grants ∷ []
changed_by (AskVotes v) = VoteRequests ∷ []
changed_by (GrantVote v q) = VoteOfTerm ∷ Grants ∷ []
changed_by (SendVote v c) = Votes ∷ []
changed_by (CountVote v c) = Counted ∷ []
changed_by (Win v) = Roles ∷ Winners ∷ Bases ∷ Books ∷ Logs ∷ Matched ∷ Starts ∷ Reached ∷ []
changed_by (OrderRequest v q p) = Logs ∷ Books ∷ Matched ∷ []
changed_by (SendOrder v previous count) = Orders ∷ []
changed_by (Confirm v o k) = Roles ∷ Matched ∷ []
changed_by (Take v o i k) = Roles ∷ Logs ∷ Matched ∷ []
changed_by (Acknowledge v m) = Acks ∷ []
changed_by (CommitByCount v m) = Commits ∷ []
changed_by (CommitByOrder v o m) = Commits ∷ []
changed_by (CommitByAggregate v a m) = Commits ∷ []
changed_by (Aggregate o m) = Aggregates ∷ []
changed_by (Apply v) = Applied ∷ Passes ∷ []
changed_by (Answer v index payload) = Replies ∷ []
changed_by (AnswerAgain v r e) = Replies ∷ []
changed_by (AskBody v rid) = Asked ∷ []
changed_by (GiveBody v rid) = Bodies ∷ []
changed_by (Yield v o) = Roles ∷ []
changed_by (NoteReport v a) = Reports ∷ []
changed_by (NoteOwnReport v) = Reports ∷ []
changed_by (NoteAck v a) = Reached ∷ []
changed_by (Hold v rids) = Pools ∷ []
changed_by (Refuse v) = Refusals ∷ []
changed_by (RejectOrder v hint) = Nacks ∷ []
changed_by (Follow o) = TheAggregator ∷ []
changed_by (NoteOrder o) = TheAggregator ∷ []
changed_by (Collect a) = TheAggregator ∷ []
changed_by Forget = TheAggregator ∷ []
changed_by (Crash v) = Up ∷ Roles ∷ Counted ∷ Matched ∷ Commits ∷ Applied ∷ Starts ∷ Reached ∷ Pools ∷ []
changed_by (Restart v) = Up ∷ []
changed_by (SendRequest q) = Table ∷ []

-- a part is named in a list of parts
abbrev pub is_named : Part → List Part → Bool
is_named p [] = false
is_named p (q ∷ more) = (part_number p == part_number q) || is_named p more

-- a rule leaves a part that it doesn't change; no rule changes the size of the group or a bound
pub record Leaves (w : ProtocolState) (r : Rule) (x : ProtocolState) : Type 0 where
  pub size : x.size ≡ w.size
  pub bound : x.bound ≡ w.bound
  pub part : (p : Part) → is_named p (changed_by r) ≡ false → Same p w x

-- what only grows: what was sent, granted, won, learnt, applied or answered stays, and books and the table
-- grow at the end
pub record Grows (w x : ProtocolState) : Type 0 where
  pub terms : (v : ℕ) → w.term v ≤ x.term v
  pub grants : (t v : ℕ) (g : Grant) → w.granted t v ≡ Some g → x.granted t v ≡ Some g
  pub winners : (t c : ℕ) → w.winner t ≡ Some c → x.winner t ≡ Some c
  pub bases : (t c : ℕ) → w.winner t ≡ Some c → x.base t ≡ w.base t
  pub books : (t : ℕ) → Share (length (w.book t)) (w.book t) (x.book t)
  pub vote_requests : (q : VoteRequest) → In q w.vote_requests → In q x.vote_requests
  pub votes : (y : Vote) → In y w.votes → In y x.votes
  pub orders : (o : Order) → In o w.orders → In o x.orders
  pub acks : (a : Ack) → In a w.acks → In a x.acks
  pub acked : (t v : ℕ) → acked w.acks t v ≤ acked x.acks t v
  pub aggregates : (a : AggregateCommit) → In a w.aggregates → In a x.aggregates
  pub refusals : (y : Refusal) → In y w.refusals → In y x.refusals
  pub nacks : (y : Nack) → In y w.nacks → In y x.nacks
  pub asked : (rid : Rid) → In rid w.asked → In rid x.asked
  pub bodies : (rid : Rid) → In rid w.bodies → In rid x.bodies
  pub table : (rest : List Request) × (x.table ≡ w.table ++ rest)
  pub reports : (r : Report) → In r w.reports → In r x.reports
  pub passed : (e : Passed) → In e w.passed → In e x.passed
  pub replied : (r : Reply) → In r w.replied → In r x.replied

-- what the state has of one member
pub record MemberOf : Type 0 where
  pub term : ℕ
  pub vote : Option ℕ
  pub log : List Entry
  pub up : Bool
  pub role : Role
  pub counted : ℕ → Bool
  pub matched : ℕ
  pub commit : ℕ
  pub applied : ℕ
  pub start : ℕ
  pub reached : ℕ → ℕ
  pub pool : List Rid

-- a member as it is in the state
abbrev pub member_of : ProtocolState → ℕ → MemberOf
member_of w u =
    record {
      term = w.term u;
      vote = w.vote u;
      log = w.log u;
      up = w.up u;
      role = w.role u;
      counted = w.counted u;
      matched = w.matched u;
      commit = w.commit u;
      applied = w.applied u;
      start = w.start u;
      reached = w.reached u;
      pool = w.pool u;
    }

-- a member that is down: it kept its term, its vote and its log, and has the rest as one that begins (Raft, figure 2)
abbrev pub stopped_member : ℕ → Option ℕ → List Entry → MemberOf
stopped_member term vote log =
    record {
      term = term;
      vote = vote;
      log = log;
      up = false;
      role = Follower;
      counted = λ c. false;
      matched = 0;
      commit = 0;
      applied = 0;
      start = 0;
      reached = λ p. 0;
      pool = [];
    }

-- the member is another than the one that makes the step, if a member does
abbrev pub IsOther : ℕ → Rule → Type 0
IsOther u (Rise v s) = u ≢ v
IsOther u (Stand v) = u ≢ v
IsOther u (AskVotes v) = u ≢ v
IsOther u (GrantVote v q) = u ≢ v
IsOther u (SendVote v c) = u ≢ v
IsOther u (CountVote v c) = u ≢ v
IsOther u (Win v) = u ≢ v
IsOther u (OrderRequest v q p) = u ≢ v
IsOther u (SendOrder v previous count) = u ≢ v
IsOther u (Confirm v o k) = u ≢ v
IsOther u (Take v o i k) = u ≢ v
IsOther u (Acknowledge v m) = u ≢ v
IsOther u (CommitByCount v m) = u ≢ v
IsOther u (CommitByOrder v o m) = u ≢ v
IsOther u (CommitByAggregate v a m) = u ≢ v
IsOther u (Aggregate o m) = Unit {0}
IsOther u (Apply v) = u ≢ v
IsOther u (Answer v index payload) = u ≢ v
IsOther u (AnswerAgain v r e) = u ≢ v
IsOther u (AskBody v rid) = u ≢ v
IsOther u (GiveBody v rid) = u ≢ v
IsOther u (Yield v o) = u ≢ v
IsOther u (NoteReport v a) = u ≢ v
IsOther u (NoteOwnReport v) = u ≢ v
IsOther u (NoteAck v a) = u ≢ v
IsOther u (Hold v rids) = u ≢ v
IsOther u (Refuse v) = u ≢ v
IsOther u (RejectOrder v hint) = u ≢ v
IsOther u (Follow o) = Unit {0}
IsOther u (NoteOrder o) = Unit {0}
IsOther u (Collect a) = Unit {0}
IsOther u Forget = Unit {0}
IsOther u (Crash v) = u ≢ v
IsOther u (Restart v) = u ≢ v
IsOther u (SendRequest q) = Unit {0}
