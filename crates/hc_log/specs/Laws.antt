-- What holds of logs, and of durable states and the records that lead from one to the next.
use Rattle.std.specs.Prelude.{◌≡◌, ◌≢◌, ℕ, ◌≤◌, ◌↔◌, true, false, List, [], ◌∷◌, ◌++◌, length, take, drop, All, AllPairs}
use Rattle.std.specs.List.Sorted.{IsNonDecreasingBy}
use Rattle.r2_base.specs.Entry.{is_request}
use Rattle.r2_base.specs.Limits.{most_entries}
use Rattle.hc_log.specs.declared.stored.Stored.{Stored}
use Rattle.hc_log.specs.declared.record.Record.{Record}
use Rattle.hc_log.specs.Ranges.{IsStored}
use Rattle.hc_log.specs.Log.{last_term, stands_in, has_room, IsWithinLimits, MayFollow, FollowEach, IsLog}
use Rattle.hc_log.specs.Durable.{State, after, replay, KeepsVote, IsNext, IsHistory, IsValid}

-- two entries aren't of one request
abbrev pub AreApart : Stored → Stored → Type 0
AreApart a b = is_request a.entry.kind ≡ true → is_request b.entry.kind ≡ true → a.entry.rid ≢ b.entry.rid

-- a list of entries in range that isn't too long, whose terms never fall, with no request twice
pub record IsFormed (log : List Stored) : Type 0 where
  pub stored : All IsStored log
  pub terms : IsNonDecreasingBy (λ s. s.entry.term) log
  pub requests : AllPairs AreApart log
  pub limits : IsWithinLimits log

-- the logs are exactly these lists
abbrev pub LogsAreFormed : Type 0
LogsAreFormed = (log : List Stored) → IsLog log ↔ IsFormed log

-- entries may follow a log, one after another, exactly where the two together are a log
abbrev pub FollowersMakeALog : Type 0
FollowersMakeALog = (log entries : List Stored) → IsLog log → FollowEach log entries ↔ IsLog (log ++ entries)

-- a request that isn't in a log, of no earlier term than its last entry's, may follow it where there is room
abbrev pub RequestsWithRoomFollow : Type 0
RequestsWithRoomFollow =
    (log : List Stored) (s : Stored) → IsStored s → is_request s.entry.kind ≡ true → last_term log ≤ s.entry.term
    → stands_in s.entry.rid log ≡ false → has_room log s.body ≡ true → MayFollow log s

-- after a valid state and a record that may be its next one there is a valid state
abbrev pub RecordsKeepStatesValid : Type 0
RecordsKeepStatesValid = (d : State) (r : Record) → IsValid d → IsNext d r → IsValid (after d r)

-- records of which each may be the next one lead to a valid state
abbrev pub HistoriesLeadToValidStates : Type 0
HistoriesLeadToValidStates = (records : List Record) → IsHistory records → IsValid (replay records)

-- a further record leads one step further
abbrev pub ReplaysGoOn : Type 0
ReplaysGoOn = (records : List Record) (r : Record) → replay (records ++ r ∷ []) ≡ after (replay records) r

-- and where it may be the next one, the records are such a list again
abbrev pub HistoriesGoOn : Type 0
HistoriesGoOn = (records : List Record) (r : Record) → IsHistory records → IsNext (replay records) r → IsHistory (records ++ r ∷ [])

-- the record of a state, of whose log the first entries were there before
abbrev pub record_of : State → ℕ → Record
record_of e keep = record { term = e.term; vote = e.vote; keep = keep; entries = drop keep e.log }

-- a state may come after another one: its term isn't lower, a vote of the term stays, the first entries are kept, and
-- there are at most `most_entries` after them
pub record MayComeBehind (d e : State) (keep : ℕ) : Type 0 where
  pub is_set : 1 ≤ e.term
  pub term : d.term ≤ e.term
  pub vote : d.term ≡ e.term → KeepsVote d.vote e.vote
  pub within : keep ≤ length d.log
  pub front : take keep d.log ≡ take keep e.log
  pub count : length (drop keep e.log) ≤ most_entries

-- then its record may be the next one, and leads to it
abbrev pub ChangesAreRecords : Type 0
ChangesAreRecords =
    (d e : State) (keep : ℕ) → IsValid d → IsValid e → MayComeBehind d e keep
    → IsNext d (record_of e keep) × (after d (record_of e keep) ≡ e)
