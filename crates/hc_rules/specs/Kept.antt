-- What every step keeps: the facts on votes, winners, logs, acknowledgements, commitments, requests and crashes.
use Rattle.std.specs.Prelude.{◌≡◌, ◌≢◌, ◌⊎◌, ℕ, suc, ◌+◌, ◌<◌, ◌≤◌, true, false, max, is_some, List, [], length, take, drop, Option, Some, None}
use Rattle.r2_base.specs.declared.rid.Rid.{Rid}
use Rattle.r2_base.specs.declared.entry.Entry.{Entry}
use Rattle.r2_base.specs.Entry.{blank_entry, is_request}
use Rattle.hc_rules.specs.Log.{In, IsNotAhead, Share, entry_at, last_term, term_at}
use Rattle.hc_rules.specs.Majority.{IsMajority}
use Rattle.hc_rules.specs.Message.{VoteRequest, Vote, Order, Ack, AggregateCommit, Request, Grant, Report, Passed}
use Rattle.hc_rules.specs.Parts.{member_of, stopped_member}
use Rattle.hc_rules.specs.Requests.{At, IsKnown, IsListed}
use Rattle.hc_rules.specs.Protocol.{ProtocolState, Candidate, Leader, Committed, IsCommittedIn, acked, backs, is_early_for, told, voted}

-- Votes (Raft, section 5.2) --

-- a vote was given at a term of at most the voter's
abbrev pub GrantsAreOld : ProtocolState → Type 0
GrantsAreOld w = (t v : ℕ) (g : Grant) → w.granted t v ≡ Some g → t ≤ w.term v

-- a member's vote is its grant of its term
abbrev pub VotesAreGrants : ProtocolState → Type 0
VotesAreGrants w = (v : ℕ) → w.vote v ≡ voted w.granted (w.term v) v

-- each vote that was counted was given
abbrev pub CountedVotesAreGrants : ProtocolState → Type 0
CountedVotesAreGrants w = (v c : ℕ) → w.counted v c ≡ true → voted w.granted (w.term v) c ≡ Some v

-- each vote that was sent was given
abbrev pub SentVotesAreGrants : ProtocolState → Type 0
SentVotesAreGrants w = (x : Vote) → In x w.votes → voted w.granted x.term x.voter ≡ Some x.candidate

-- a late grant, one that was given when the term had been won, is of a term that was won
abbrev pub LateGrantsAreOfWonTerms : ProtocolState → Type 0
LateGrantsAreOfWonTerms w = (t v : ℕ) (g : Grant) → w.granted t v ≡ Some g → g.late ≡ true → is_some (w.winner t) ≡ true

-- a member voted for itself at a term, and this was its log
pub record VotedForItself (granted : ℕ → ℕ → Option Grant) (t v : ℕ) (log : List Entry) : Type 0 where
  pub grant : Grant
  pub given : granted t v ≡ Some grant
  pub own : grant.candidate ≡ v
  pub same : grant.log ≡ log

-- a candidate voted for itself, and its log is the one of then
abbrev pub CandidatesVotedForThemselves : ProtocolState → Type 0
CandidatesVotedForThemselves w = (v : ℕ) → w.role v ≡ Candidate → VotedForItself w.granted (w.term v) v (w.log v)

-- a candidate's term isn't the first, which has the number 0
abbrev pub CandidatesHaveTerms : ProtocolState → Type 0
CandidatesHaveTerms w = (v : ℕ) → w.role v ≡ Candidate → 0 < w.term v

-- a candidate hasn't won its term
abbrev pub CandidatesHaveNotWon : ProtocolState → Type 0
CandidatesHaveNotWon w = (v : ℕ) → w.role v ≡ Candidate → w.winner (w.term v) ≢ Some v

-- a request for votes says where the candidate's log ended when it voted for itself
pub record TellsItsLog (granted : ℕ → ℕ → Option Grant) (q : VoteRequest) : Type 0 where
  pub grant : Grant
  pub given : granted q.term q.candidate ≡ Some grant
  pub own : grant.candidate ≡ q.candidate
  pub index : q.last_index ≡ length grant.log
  pub last : q.last_term ≡ last_term grant.log

-- each request for votes that was sent does
abbrev pub VoteRequestsTellLogs : ProtocolState → Type 0
VoteRequestsTellLogs w = (q : VoteRequest) → In q w.vote_requests → TellsItsLog w.granted q

-- the voter's log isn't ahead of the candidate's, each as it was when it voted (Raft, section 5.4.1)
pub record IsBehindItsCandidate (granted : ℕ → ℕ → Option Grant) (t : ℕ) (g : Grant) : Type 0 where
  pub theirs : Grant
  pub given : granted t g.candidate ≡ Some theirs
  pub own : theirs.candidate ≡ g.candidate
  pub behind : IsNotAhead (last_term g.log) (length g.log) (last_term theirs.log) (length theirs.log)

-- no voter's log was ahead of its candidate's
abbrev pub VotersAreBehind : ProtocolState → Type 0
VotersAreBehind w = (t v : ℕ) (g : Grant) → w.granted t v ≡ Some g → IsBehindItsCandidate w.granted t g

-- Winners (Raft, sections 5.2 and 5.3) --

-- a winner is a member of the group
abbrev pub WinnersAreMembers : ProtocolState → Type 0
WinnersAreMembers w = (t c : ℕ) → w.winner t ≡ Some c → c < w.size

-- a term that was won isn't 0
abbrev pub WonTermsArePositive : ProtocolState → Type 0
WonTermsArePositive w = (t c : ℕ) → w.winner t ≡ Some c → 0 < t

-- a winner's term is at least the one that it won
abbrev pub WinnersAreNotBehind : ProtocolState → Type 0
WinnersAreNotBehind w = (t c : ℕ) → w.winner t ≡ Some c → t ≤ w.term c

-- a winner voted for itself with the log that is the term's base
abbrev pub WinnersVotedForThemselves : ProtocolState → Type 0
WinnersVotedForThemselves w = (t c : ℕ) → w.winner t ≡ Some c → VotedForItself w.granted t c (w.base t)

-- a majority voted for the winner, before it had won
abbrev pub WinnersHadMajorities : ProtocolState → Type 0
WinnersHadMajorities w = (t c : ℕ) → w.winner t ≡ Some c → IsMajority w.size (λ v. is_early_for c (w.granted t v))

-- while its term is the one that it won, a winner's log is the term's book
abbrev pub WinnersHaveTheirBooks : ProtocolState → Type 0
WinnersHaveTheirBooks w = (t c : ℕ) → w.winner t ≡ Some c → w.term c ≡ t → w.log c ≡ w.book t

-- a leader won its term, and its own first entry comes right after the base
pub record LedBy (winner : Option ℕ) (base : List Entry) (v start : ℕ) : Type 0 where
  pub won : winner ≡ Some v
  pub start_is : start ≡ suc (length base)

-- each leader has
abbrev pub LeadersHaveWon : ProtocolState → Type 0
LeadersHaveWon w = (v : ℕ) → w.role v ≡ Leader → LedBy (w.winner (w.term v)) (w.base (w.term v)) v (w.start v)

-- a term that wasn't won has nothing
pub record HasNothing (base book : List Entry) : Type 0 where
  pub no_base : base ≡ []
  pub no_book : book ≡ []

-- neither base nor book
abbrev pub UnwonTermsHaveNothing : ProtocolState → Type 0
UnwonTermsHaveNothing w = (t : ℕ) → w.winner t ≡ None → HasNothing (w.base t) (w.book t)

-- the book of a term is its base, whose entries are of earlier terms, a blank entry of the term, and entries of the term
pub record IsBookOf (t : ℕ) (base book : List Entry) : Type 0 where
  pub older : (k : ℕ) → k < length base → term_at base (suc k) < t
  pub begins : Share (length base) base book
  pub longer : length base < length book
  pub blank : entry_at book (suc (length base)) ≡ blank_entry t
  pub own : (k : ℕ) → length base ≤ k → k < length book → term_at book (suc k) ≡ t

-- so is the book of each term that was won
abbrev pub BooksAreOfTheirTerms : ProtocolState → Type 0
BooksAreOfTheirTerms w = (t c : ℕ) → w.winner t ≡ Some c → IsBookOf t (w.base t) (w.book t)

-- Logs (Raft, section 5.3) --

-- each list of entries that the state has: the members' logs, the bases, the books, and the logs of voters
pub record EachLog (P : List Entry → Type 0) (log base book : ℕ → List Entry) (granted : ℕ → ℕ → Option Grant) : Type 0 where
  pub of_log : (v : ℕ) → P (log v)
  pub of_base : (t : ℕ) → P (base t)
  pub of_book : (t : ℕ) → P (book t)
  pub of_grant : (t v : ℕ) (g : Grant) → granted t v ≡ Some g → P g.log

-- up to each of its entries the log is the book of the entry's term
abbrev pub Matches : (ℕ → List Entry) → List Entry → Type 0
Matches book log = (k : ℕ) → k < length log → Share (suc k) log (book (term_at log (suc k)))

-- each list of entries does (Raft, section 5.3, the log matching property)
abbrev pub LogsMatchBooks : ProtocolState → Type 0
LogsMatchBooks w = EachLog (Matches w.book) w.log w.base w.book w.granted

-- terms never fall, no request is found twice, and each request is the table's under its kind
pub record IsFormed (table : List Request) (log : List Entry) : Type 0 where
  pub rising : (i k : ℕ) → i ≤ k → k < length log → term_at log (suc i) ≤ term_at log (suc k)
  pub distinct : (i k : ℕ) → i < k → k < length log → is_request (entry_at log (suc i)).kind ≡ true
      → is_request (entry_at log (suc k)).kind ≡ true → (entry_at log (suc i)).rid ≢ (entry_at log (suc k)).rid
  pub listed : (k : ℕ) → k < length log → is_request (entry_at log (suc k)).kind ≡ true → IsListed table (entry_at log (suc k))

-- each list of entries is well formed
abbrev pub LogsAreFormed : ProtocolState → Type 0
LogsAreFormed w = EachLog (IsFormed w.table) w.log w.base w.book w.granted

-- a member's entries are of terms up to its own
abbrev pub EntriesAreOld : ProtocolState → Type 0
EntriesAreOld w = (v k : ℕ) → k < length (w.log v) → term_at (w.log v) (suc k) ≤ w.term v

-- an Order is a slice of its term's book, sent by the winner of the term
pub record IsSlice (winner : Option ℕ) (base book : List Entry) (o : Order) : Type 0 where
  pub won : winner ≡ Some o.leader
  pub start_is : o.start ≡ suc (length base)
  pub within : o.previous + length o.entries ≤ length book
  pub previous_is : o.previous_term ≡ term_at book o.previous
  pub entries_are : take (length o.entries) (drop o.previous book) ≡ o.entries

-- each Order that was sent is one
abbrev pub OrdersAreSlices : ProtocolState → Type 0
OrdersAreSlices w = (o : Order) → In o w.orders → IsSlice (w.winner o.term) (w.base o.term) (w.book o.term) o

-- Acknowledgements (Raft, sections 5.3 and 5.4) --

-- what is matched is the leader's
abbrev pub MatchedIsTheLeaders : ProtocolState → Type 0
MatchedIsTheLeaders w = (v : ℕ) → Share (w.matched v) (w.log v) (w.book (w.term v))

-- what was acknowledged is in the book, at a term of at most the member's, and in its log while its term is that
pub record AckedIsTheBooks (t index own : ℕ) (log book : List Entry) : Type 0 where
  pub below : index ≤ length book
  pub old : 0 < index → t ≤ own
  pub held : own ≡ t → Share index log book

-- so it is with the greatest index that a member acknowledged in a term
abbrev pub AcknowledgedIsTheLeaders : ProtocolState → Type 0
AcknowledgedIsTheLeaders w =
    (t v : ℕ) → AckedIsTheBooks t (acked w.acks t v) (w.term v) (w.log v) (w.book t)

-- an acknowledgement is of a term of at most its member's, and at most the greatest of that member and term
pub record IsBelow (own greatest : ℕ) (a : Ack) : Type 0 where
  pub old : a.term ≤ own
  pub below : a.index ≤ greatest

-- each acknowledgement that was sent is
abbrev pub AcksAreBelow : ProtocolState → Type 0
AcksAreBelow w = (a : Ack) → In a w.acks → IsBelow (w.term a.member) (acked w.acks a.term a.member) a

-- the bases of the terms won after t and before an end begin with the first m entries of t's book
abbrev pub BasesKeep : ProtocolState → ℕ → ℕ → ℕ → Type 0
BasesKeep w t m end = (s c : ℕ) → t < s → s < end → w.winner s ≡ Some c → Share m (w.base s) (w.book t)

-- what a member has of a book it keeps, if the leaders since then had it
abbrev pub AcknowledgedIsKept : ProtocolState → Type 0
AcknowledgedIsKept w =
    (t m v : ℕ) → backs w.winner w.acks t m v ≡ true → m ≤ length (w.book t) → BasesKeep w t m (suc (w.term v))
    → Share m (w.log v) (w.book t)

-- and it had it when it voted at a later term that wasn't won yet, if the leaders before that term had it
abbrev pub GrantedIsKept : ProtocolState → Type 0
GrantedIsKept w =
    (t m u v : ℕ) (g : Grant) → w.granted u v ≡ Some g → g.late ≡ false → t < u → backs w.winner w.acks t m v ≡ true
    → m ≤ length (w.book t) → BasesKeep w t m u → Share m g.log (w.book t)

-- Commitments (Raft, section 5.4; HovercRaft, on in-network aggregation) --

-- the first c entries of a log are committed, at a term of at most t
pub record IsCommitted (members : ℕ) (winner : ℕ → Option ℕ) (book : ℕ → List Entry) (acks : List Ack) (t : ℕ) (log : List Entry) (c : ℕ) : Type 0 where
  pub term : ℕ
  pub index : ℕ
  pub committed : IsCommittedIn members winner book acks term index
  pub low : c ≤ index
  pub old : term ≤ t
  pub same : Share c log (book term)

-- what a member knows to be committed is committed
abbrev pub CommitsAreCommitted : ProtocolState → Type 0
CommitsAreCommitted w =
    (v : ℕ) → 0 < w.commit v → IsCommitted w.size w.winner w.book w.acks (w.term v) (w.log v) (w.commit v)

-- and so is what an Order says is committed
abbrev pub OrdersTellCommitted : ProtocolState → Type 0
OrdersTellCommitted w =
    (o : Order) → In o w.orders → 0 < o.commit → IsCommitted w.size w.winner w.book w.acks o.term (w.book o.term) o.commit

-- and what the aggregator says is committed
abbrev pub AggregatesAreCommitted : ProtocolState → Type 0
AggregatesAreCommitted w = (a : AggregateCommit) → In a w.aggregates → Committed w a.term a.index

-- an entry that was applied was committed at its index
pub record WasCommitted (members : ℕ) (winner : ℕ → Option ℕ) (book : ℕ → List Entry) (acks : List Ack) (index : ℕ) (e : Entry) : Type 0 where
  pub term : ℕ
  pub end : ℕ
  pub committed : IsCommittedIn members winner book acks term end
  pub first : 0 < index
  pub low : index ≤ end
  pub same : entry_at (book term) index ≡ e

-- so was each that was applied
abbrev pub PassedWasCommitted : ProtocolState → Type 0
PassedWasCommitted w = (x : Passed) → In x w.passed → WasCommitted w.size w.winner w.book w.acks x.index x.entry

-- a member applies only what it knows to be committed
abbrev pub AppliedIsCommitted : ProtocolState → Type 0
AppliedIsCommitted w = (v : ℕ) → w.applied v ≤ w.commit v

-- and it has applied each entry up to there, as its log has it
abbrev pub AppliedWasPassed : ProtocolState → Type 0
AppliedWasPassed w =
    (v k : ℕ) → k < w.applied v → In (record { member = v; index = suc k; entry = entry_at (w.log v) (suc k) }) w.passed

-- what a leader holds to be reached was acknowledged in its term
abbrev pub ReachedWasAcknowledged : ProtocolState → Type 0
ReachedWasAcknowledged w = (v p : ℕ) → w.role v ≡ Leader → w.reached v p ≤ acked w.acks (w.term v) p

-- a member applied an entry at an index
pub record HasPassed (passed : List Passed) (v index : ℕ) : Type 0 where
  pub entry : Entry
  pub done : In (record { member = v; index = index; entry = entry }) passed

-- a member applied an entry at each of the first so many indexes
abbrev pub HasApplied : List Passed → ℕ → ℕ → Type 0
HasApplied passed v count = (k : ℕ) → k < count → HasPassed passed v (suc k)

-- an acknowledgement reports no more than its member had applied
abbrev pub AcksTellApplied : ProtocolState → Type 0
AcksTellApplied w = (a : Ack) → In a w.acks → HasApplied w.passed a.member a.applied

-- an acknowledgement of the report's term, by its member, reported its index
pub record WasTold (acks : List Ack) (r : Report) : Type 0 where
  pub ack : Ack
  pub sent : In ack acks
  pub term_is : ack.term ≡ r.term
  pub member_is : ack.member ≡ r.member
  pub applied_is : ack.applied ≡ r.index

-- the report is of the leader itself, which had applied as much
pub record IsItsOwn (passed : List Passed) (r : Report) : Type 0 where
  pub own : r.member ≡ r.leader
  pub applied : HasApplied passed r.leader r.index

-- the winner of the report's term learnt it, from an acknowledgement of that term or by itself
pub record WasLearnt (winner : Option ℕ) (acks : List Ack) (passed : List Passed) (r : Report) : Type 0 where
  pub won : winner ≡ Some r.leader
  pub told : WasTold acks r ⊎ IsItsOwn passed r

-- so was each report (HovercRaft, on bounded queues)
abbrev pub ReportsWereLearnt : ProtocolState → Type 0
ReportsWereLearnt w = (r : Report) → In r w.reports → WasLearnt (w.winner r.term) w.acks w.passed r

-- what the aggregator holds to be reached was sent or acknowledged in its term
abbrev pub AggregatorWasTold : ProtocolState → Type 0
AggregatorWasTold w =
    (p : ℕ) → w.aggregator.reached p ≤ max (told w.orders w.aggregator.term p) (acked w.acks w.aggregator.term p)

-- the aggregator's leader and the leader's first entry are those of an Order of its term
pub record IsAggregatorsOrder (orders : List Order) (term leader start : ℕ) : Type 0 where
  pub order : Order
  pub sent : In order orders
  pub term_is : order.term ≡ term
  pub leader_is : order.leader ≡ leader
  pub start_is : order.start ≡ start

-- once it has begun to count
abbrev pub AggregatorFollowsAnOrder : ProtocolState → Type 0
AggregatorFollowsAnOrder w =
    0 < w.aggregator.term → IsAggregatorsOrder w.orders w.aggregator.term w.aggregator.leader w.aggregator.start

-- Requests (HovercRaft, on separating replication from order) --

-- no request id is found twice in the table
abbrev pub TableIsDistinct : ProtocolState → Type 0
TableIsDistinct w =
    (i k : ℕ) (q r : Request) → At w.table i q → At w.table k r → q.rid ≡ r.rid → i ≡ k

-- what members hold, asked for and gave are requests of the table
abbrev pub BodiesAreKnown : ProtocolState → Type 0
BodiesAreKnown w = (v : ℕ) (rid : Rid) → In rid (w.pool v) ⊎ (In rid w.asked ⊎ In rid w.bodies) → IsKnown w.table rid

-- Crashes (Raft, section 5.5; figure 2 on persistent state) --

-- a member that is down has its term, its vote and its log, and else what one that begins has
abbrev pub StoppedMembersForgot : ProtocolState → Type 0
StoppedMembersForgot w = (v : ℕ) → w.up v ≡ false → member_of w v ≡ stopped_member (w.term v) (w.vote v) (w.log v)

-- All of this together --

-- what every step keeps of votes
pub record VotesKept (w : ProtocolState) : Type 0 where
  pub grants_are_old : GrantsAreOld w
  pub votes_are_grants : VotesAreGrants w
  pub counted_votes_are_grants : CountedVotesAreGrants w
  pub sent_votes_are_grants : SentVotesAreGrants w
  pub late_grants_are_of_won_terms : LateGrantsAreOfWonTerms w
  pub candidates_voted_for_themselves : CandidatesVotedForThemselves w
  pub candidates_have_terms : CandidatesHaveTerms w
  pub candidates_have_not_won : CandidatesHaveNotWon w
  pub vote_requests_tell_logs : VoteRequestsTellLogs w
  pub voters_are_behind : VotersAreBehind w

-- of the winners of terms
pub record WinnersKept (w : ProtocolState) : Type 0 where
  pub winners_are_members : WinnersAreMembers w
  pub won_terms_are_positive : WonTermsArePositive w
  pub winners_are_not_behind : WinnersAreNotBehind w
  pub winners_voted_for_themselves : WinnersVotedForThemselves w
  pub winners_had_majorities : WinnersHadMajorities w
  pub winners_have_their_books : WinnersHaveTheirBooks w
  pub leaders_have_won : LeadersHaveWon w
  pub unwon_terms_have_nothing : UnwonTermsHaveNothing w
  pub books_are_of_their_terms : BooksAreOfTheirTerms w

-- of logs and Orders
pub record LogsKept (w : ProtocolState) : Type 0 where
  pub logs_match_books : LogsMatchBooks w
  pub logs_are_formed : LogsAreFormed w
  pub entries_are_old : EntriesAreOld w
  pub orders_are_slices : OrdersAreSlices w

-- of acknowledgements
pub record AcksKept (w : ProtocolState) : Type 0 where
  pub matched_is_the_leaders : MatchedIsTheLeaders w
  pub acknowledged_is_the_leaders : AcknowledgedIsTheLeaders w
  pub acks_are_below : AcksAreBelow w
  pub acknowledged_is_kept : AcknowledgedIsKept w
  pub granted_is_kept : GrantedIsKept w

-- of what is committed
pub record CommitsKept (w : ProtocolState) : Type 0 where
  pub commits_are_committed : CommitsAreCommitted w
  pub orders_tell_committed : OrdersTellCommitted w
  pub aggregates_are_committed : AggregatesAreCommitted w
  pub passed_was_committed : PassedWasCommitted w
  pub applied_is_committed : AppliedIsCommitted w
  pub applied_was_passed : AppliedWasPassed w
  pub reached_was_acknowledged : ReachedWasAcknowledged w
  pub acks_tell_applied : AcksTellApplied w
  pub reports_were_learnt : ReportsWereLearnt w
  pub aggregator_was_told : AggregatorWasTold w
  pub aggregator_follows_an_order : AggregatorFollowsAnOrder w

-- of requests
pub record RequestsKept (w : ProtocolState) : Type 0 where
  pub table_is_distinct : TableIsDistinct w
  pub bodies_are_known : BodiesAreKnown w

-- what every step keeps
pub record Kept (w : ProtocolState) : Type 0 where
  pub votes : VotesKept w
  pub winners : WinnersKept w
  pub logs : LogsKept w
  pub acknowledgements : AcksKept w
  pub commitments : CommitsKept w
  pub requests : RequestsKept w
  pub stopped_members_forgot : StoppedMembersForgot w
