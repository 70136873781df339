-- The state of the protocol, on which its rules act: the members of a group, the aggregator, all that was ever sent, and
-- what the laws remember.
--
-- The rules alone have this state. Members that run, with journals and datagrams, have a state of their own, for which one of
-- the protocol can stand.
--
-- Left out is what carries no promise of these rules: timers, assemblies, queues, kept replies, the pending batch and the
-- next index to send. Of queues and kept replies a member that runs has more to say. An entry here has no body: bodies are
-- those of the table of requests, by request id; that members hold and give these is for the world to show.
use Rattle.std.specs.Prelude.{◌≡◌, ℕ, suc, ◌+◌, ◌<◌, ◌≤◌, Bool, true, false, max, ◌==◌, ◌&&◌, ◌||◌, nat_le, if◌then◌else◌, List, [], ◌∷◌, length, drop, Option, Some, None, option_map}
use Rattle.r2_base.specs.declared.rid.Rid.{Rid}
use Rattle.r2_base.specs.declared.entry.Entry.{Entry}
use Rattle.r2_base.specs.Entry.{is_request}
use Rattle.hc_rules.specs.Log.{term_at}
use Rattle.hc_rules.specs.Majority.{IsMajority}
use Rattle.hc_rules.specs.Message.{VoteRequest, Vote, Order, Ack, AggregateCommit, Refusal, Nack, Request, Grant, Report, Passed, Reply, Aggregator}

-- a member's part in its term (Raft, section 5.1)
pub data Role : Type 0 where
  Follower Candidate Leader : Role

-- the group and its history. Members are numbers below `size`; what is kept by member, by term, or by term and voter is a
-- function of these. Of messages of one kind the newest comes first
pub record ProtocolState : Type 0 where
  -- how many members there are, and how many unreported entries each member may be given: none where it is 0
  pub size : ℕ
  pub bound : ℕ → ℕ
  -- what a member keeps over a crash
  pub term : ℕ → ℕ
  pub vote : ℕ → Option ℕ
  pub log : ℕ → List Entry
  -- what it loses: the votes that it counted, up to where its log is its leader's, how much it knows to be committed and
  -- has applied; of a leader the index of its own first entry, and the index that each member reached; the bodies held
  pub up : ℕ → Bool
  pub role : ℕ → Role
  pub counted : ℕ → ℕ → Bool
  pub matched : ℕ → ℕ
  pub commit : ℕ → ℕ
  pub applied : ℕ → ℕ
  pub start : ℕ → ℕ
  pub reached : ℕ → ℕ → ℕ
  pub pool : ℕ → List Rid
  pub aggregator : Aggregator
  -- what was sent
  pub vote_requests : List VoteRequest
  pub votes : List Vote
  pub orders : List Order
  pub acks : List Ack
  pub aggregates : List AggregateCommit
  pub refusals : List Refusal
  pub nacks : List Nack
  pub asked : List Rid
  pub bodies : List Rid
  -- the requests that clients sent, in the order of their first sending
  pub table : List Request
  -- of each term: who won it, the log with which it was won, and the leader's log since; and the votes, by term and voter
  pub winner : ℕ → Option ℕ
  pub base : ℕ → List Entry
  pub book : ℕ → List Entry
  pub granted : ℕ → ℕ → Option Grant
  -- what leaders learnt, what was applied, what was answered
  pub reports : List Report
  pub passed : List Passed
  pub replied : List Reply

-- the aggregator as it begins: no term has the number 0
abbrev pub new_aggregator : Aggregator
new_aggregator = record { term = 0; leader = 0; start = 0; reached = λ p. 0 }

-- a group of so many members with these bounds, of which nobody has done anything yet
abbrev pub beginning : ℕ → (ℕ → ℕ) → ProtocolState
beginning members bounds =
    record {
      size = members;
      bound = bounds;
      term = λ v. 0;
      vote = λ v. None;
      log = λ v. [];
      up = λ v. true;
      role = λ v. Follower;
      counted = λ v c. false;
      matched = λ v. 0;
      commit = λ v. 0;
      applied = λ v. 0;
      start = λ v. 0;
      reached = λ v p. 0;
      pool = λ v. [];
      aggregator = new_aggregator;
      vote_requests = [];
      votes = [];
      orders = [];
      acks = [];
      aggregates = [];
      refusals = [];
      nacks = [];
      asked = [];
      bodies = [];
      table = [];
      winner = λ t. None;
      base = λ t. [];
      book = λ t. [];
      granted = λ t v. None;
      reports = [];
      passed = [];
      replied = [];
    }

-- a function with one value changed
abbrev pub put : {A : Type 0} → (ℕ → A) → ℕ → A → ℕ → A
put f v x u = if u == v then x else f u

-- to whom a member's vote of a term went
abbrev pub voted : (ℕ → ℕ → Option Grant) → ℕ → ℕ → Option ℕ
voted granted t v = option_map (λ (g : Grant). g.candidate) (granted t v)

-- a vote for this candidate that was given before the term was won
abbrev pub is_early_for : ℕ → Option Grant → Bool
is_early_for c None = false
is_early_for c (Some g) = (g.candidate == c) && (if g.late then false else true)

-- the term was won by this member
abbrev pub is_won_by : Option ℕ → ℕ → Bool
is_won_by None v = false
is_won_by (Some c) v = v == c

-- the greatest index that a member acknowledged in a term
abbrev pub acked : List Ack → ℕ → ℕ → ℕ
acked [] t v = 0
acked (a ∷ more) t v = if (t == a.term) && (v == a.member) then max a.index (acked more t v) else acked more t v

-- the greatest index that a member, as leader of a term, sent in an Order
abbrev pub told : List Order → ℕ → ℕ → ℕ
told [] t v = 0
told (o ∷ more) t v = if (t == o.term) && (v == o.leader) then max (o.previous + length o.entries) (told more t v) else told more t v

-- a member has the term's book up to an index: it won the term, or acknowledged that index or a greater one
abbrev pub backs : (ℕ → Option ℕ) → List Ack → ℕ → ℕ → ℕ → Bool
backs winner acks t m v = is_won_by (winner t) v || nat_le m (acked acks t v)

-- the first m entries of a term's book are committed: entry m is of that term, and a majority have them
-- (Raft, sections 5.3 and 5.4.2)
pub record IsCommittedIn (members : ℕ) (winner : ℕ → Option ℕ) (book : ℕ → List Entry) (acks : List Ack) (t m : ℕ) : Type 0 where
  pub here : 0 < m
  pub within : m ≤ length (book t)
  pub own : term_at (book t) m ≡ t
  pub backed : IsMajority members (backs winner acks t m)

-- the same of a state
abbrev pub Committed : ProtocolState → ℕ → ℕ → Type 0
Committed w t m = IsCommittedIn w.size w.winner w.book w.acks t m

-- the greatest index that a member reported to a leader in a term
abbrev pub reported : List Report → ℕ → ℕ → ℕ → ℕ
reported [] v t p = 0
reported (r ∷ more) v t p =
    if (v == r.leader) && (t == r.term) && (p == r.member) then max r.index (reported more v t p) else reported more v t p

-- an entry of the term whose request this member answers
abbrev pub is_to : ℕ → ℕ → Entry → Bool
is_to t p e = is_request e.kind && (t == e.term) && (p == e.replier)

-- the indexes of the entries that pass a test, where so many entries come before these
abbrev pub indexes_of : (Entry → Bool) → ℕ → List Entry → List ℕ
indexes_of f before [] = []
indexes_of f before (e ∷ more) =
    if f e then suc before ∷ indexes_of f (suc before) more else indexes_of f (suc before) more

-- the indexes of the entries of a leader's own term that are given to a member and that it hasn't reported, in their order
-- (HovercRaft, on bounded queues)
abbrev pub unreported : ProtocolState → ℕ → ℕ → List ℕ
unreported w v p =
    indexes_of
    (is_to (w.term v) p)
    (reported w.reports v (w.term v) p)
    (drop (reported w.reports v (w.term v) p) (w.log v))
