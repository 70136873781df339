-- What a replica keeps over a crash, and the records of its changes.
use Rattle.std.specs.Prelude.{◌≡◌, ℕ, ◌<◌, ◌≤◌, ⊤, Bool, List, [], ◌++◌, length, take, slice_index_or, Option, Some, None, IfSome, All, fold}
use Rattle.r2_base.specs.Limits.{greatest_member, greatest_number}
use Rattle.hc_log.specs.declared.stored.Stored.{Stored}
use Rattle.hc_log.specs.declared.record.Record.{Record}
use Rattle.hc_log.specs.Ranges.{IsInRange}
use Rattle.hc_log.specs.Log.{FollowEach, IsLog}

-- a durable state (Raft, figure 2): the term, the member voted for in it, and the log
pub record State : Type 0 where
  pub term : ℕ
  pub vote : Option ℕ
  pub log : List Stored

-- the state of a replica that has stored nothing yet
abbrev pub begun : State
begun = record { term = 0; vote = None; log = [] }

-- the log after a record: the first entries, those that are kept, and the record's own
abbrev pub log_behind : List Stored → Record → List Stored
log_behind log r = take r.keep log ++ r.entries

-- the state after a record
abbrev pub after : State → Record → State
after d r = record { term = r.term; vote = r.vote; log = log_behind d.log r }

-- a vote isn't changed any more
abbrev pub KeepsVote : Option ℕ → Option ℕ → Type 0
KeepsVote None vote = ⊤
KeepsVote (Some member) vote = vote ≡ Some member

-- a record may be the next one of a durable state
pub record IsNext (d : State) (r : Record) : Type 0 where
  pub in_range : IsInRange r
  pub term : d.term ≤ r.term
  pub vote : d.term ≡ r.term → KeepsVote d.vote r.vote
  pub keep : r.keep ≤ length d.log
  pub entries : FollowEach (take r.keep d.log) r.entries
  pub terms : All (λ s. s.entry.term ≤ r.term) r.entries

-- the state that records lead to, one after another
unfoldable pub replay : List Record → State
replay records = fold after begun records

-- each record may be the next one of the state that those before it lead to
abbrev pub IsHistory : List Record → Type 0
IsHistory records = (i : ℕ) (r : Record) → i < length records → IsNext (replay (take i records)) (slice_index_or records i r)

-- a state that a replica may be in
pub record IsValid (d : State) : Type 0 where
  pub term : d.term ≤ greatest_number
  pub vote : IfSome d.vote (λ member. member ≤ greatest_member)
  pub unset : d.term ≡ 0 → d.vote ≡ None
  pub log : IsLog d.log
  pub terms : All (λ s. s.entry.term ≤ d.term) d.log

-- what contracts see of a `Durable`: its state, and whether no change of it was left half done
pub record DurableView : Type 0 where
  pub state : State
  pub whole : Bool
