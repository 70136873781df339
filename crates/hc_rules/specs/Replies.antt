-- Replies and bounds: what else every step keeps.
use Rattle.std.specs.Prelude.{◌≡◌, ℕ, suc, ◌<◌, ◌≤◌, true, List, length, Option, Some}
use Rattle.r2_base.specs.declared.entry.Entry.{Entry}
use Rattle.r2_base.specs.Entry.{is_request}
use Rattle.hc_store.specs.Replies.{reply_at}
use Rattle.hc_rules.specs.Log.{In, entry_at, term_at}
use Rattle.hc_rules.specs.Message.{Ack, Reply, Request}
use Rattle.hc_rules.specs.Requests.{At, operations}
use Rattle.hc_rules.specs.Protocol.{ProtocolState, Leader, Committed, IsCommittedIn, unreported}

-- a reply is to a committed entry, and its payload is the one-thread service's at the entry's index
pub record IsRight (members : ℕ) (winner : ℕ → Option ℕ) (book : ℕ → List Entry) (acks : List Ack) (table : List Request) (r : Reply) : Type 0 where
  pub term : ℕ
  pub end : ℕ
  pub committed : IsCommittedIn members winner book acks term end
  pub first : 0 < r.index
  pub low : r.index ≤ end
  pub asks : is_request (entry_at (book term) r.index).kind ≡ true
  pub named : (entry_at (book term) r.index).rid ≡ r.request
  pub right : reply_at (operations table (book term)) r.index ≡ Some r.payload

-- each reply that went out is right
abbrev pub RepliesAreRight : ProtocolState → Type 0
RepliesAreRight w = (r : Reply) → In r w.replied → IsRight w.size w.winner w.book w.acks w.table r

-- a reply's place is within the table
abbrev pub PlacesAreWithin : ProtocolState → Type 0
PlacesAreWithin w = (r : Reply) → In r w.replied → r.place ≤ length w.table

-- a request that was first sent after a reply is committed only after the reply's entry
abbrev pub LaterRequestsStandBehind : ProtocolState → Type 0
LaterRequestsStandBehind w =
    (r : Reply) → In r w.replied → (t m index place : ℕ) (q : Request) → Committed w t m → 0 < index → index ≤ m
    → is_request (entry_at (w.book t) index).kind ≡ true → (entry_at (w.book t) index).rid ≡ q.rid → At w.table place q → r.place ≤ place
    → r.index < index

-- a leader's unreported entries for a member are at most the member's bound (HovercRaft, on bounded queues)
abbrev pub LeadersAreBounded : ProtocolState → Type 0
LeadersAreBounded w = (v p : ℕ) → w.role v ≡ Leader → length (unreported w v p) ≤ w.bound p

-- the request of an entry is given to a member of the group whose bound is above 0
pub record IsGiven (members : ℕ) (bound : ℕ → ℕ) (e : Entry) : Type 0 where
  pub member : e.replier < members
  pub answers : 0 < bound e.replier

-- each request that a log has in this term is
abbrev pub AreGivenIn : ℕ → (ℕ → ℕ) → ℕ → List Entry → Type 0
AreGivenIn members bound t log =
    (k : ℕ) → k < length log → term_at log (suc k) ≡ t → is_request (entry_at log (suc k)).kind ≡ true
    → IsGiven members bound (entry_at log (suc k))

-- so is each request of a term's book that is of that term (HovercRaft, on bounded queues)
abbrev pub RequestsAreGiven : ProtocolState → Type 0
RequestsAreGiven w = (t : ℕ) → AreGivenIn w.size w.bound t (w.book t)

-- all of this together
pub record Answered (w : ProtocolState) : Type 0 where
  pub replies_are_right : RepliesAreRight w
  pub places_are_within : PlacesAreWithin w
  pub later_requests_stand_behind : LaterRequestsStandBehind w
  pub leaders_are_bounded : LeadersAreBounded w
  pub requests_are_given : RequestsAreGiven w
