-- What holds of batches.
use Rattle.std.specs.Prelude.{◌≡◌, ℕ, ◌+◌, ◌-◌, ◌<◌, ◌≤◌, List, length, take, Some, All, AllPairs, Any, true}
use Rattle.r2_base.specs.Entry.{is_request}
use Rattle.hc_store.specs.State.{State}
use Rattle.hc_store.specs.Replies.{after_all, reply_at}
use Rattle.hc_log.specs.declared.stored.Stored.{Stored}
use Rattle.hc_log.specs.Log.{stored_at}
use Rattle.hc_service.specs.declared.answer.Answer.{Answer}
use Rattle.hc_service.specs.Batch.{entries_between, run_all}
use Rattle.hc_service.specs.Entries.{contents_after, operations, own_reads_of, writes_of}

-- a service after some entries: what one thread would keep after them, and each request to write and each request to read that was
-- this member's to answer counted
pub record HasRun (me : ℕ) (entries : List Stored) (before after : State) : Type 0 where
  pub contents : after.contents ≡ after_all before.contents (operations entries)
  pub writes : after.writes ≡ before.writes + writes_of entries
  pub reads : after.reads ≡ before.reads + own_reads_of me entries

-- each batch leaves that
abbrev pub BatchesRun : Type 0
BatchesRun = (me index : ℕ) (entries : List Stored) (service : State) → HasRun me entries service (run_all me index entries service).service

-- the entry at an index is a request that this member is to answer
pub record IsOwn (me : ℕ) (log : List Stored) (index : ℕ) : Type 0 where
  pub asks : is_request (stored_at log index).entry.kind ≡ true
  pub own : (stored_at log index).entry.replier ≡ me

-- an answer to such an entry: the one-thread service's reply to it
pub record IsAnswer (me : ℕ) (log : List Stored) (from to : ℕ) (a : Answer) : Type 0 where
  pub first : from ≤ a.index
  pub last : a.index ≤ to
  pub is_own : IsOwn me log a.index
  pub rid : a.rid ≡ (stored_at log a.index).entry.rid
  pub kind : a.kind ≡ (stored_at log a.index).entry.kind
  pub payload : reply_at (operations log) a.index ≡ Some a.payload

-- the answers to exactly those entries between two indexes, in the order of their indexes
pub record AreAnswers (me : ℕ) (log : List Stored) (from to : ℕ) (answers : List Answer) : Type 0 where
  pub each : All (IsAnswer me log from to) answers
  pub every : (index : ℕ) → from ≤ index → index ≤ to → IsOwn me log index → Any (λ a. a.index ≡ index) answers
  pub rising : AllPairs (λ a b. a.index < b.index) answers

-- over what one thread keeps after the entries before, a batch gives those
abbrev pub BatchesAnswer : Type 0
BatchesAnswer =
    (me : ℕ) (log : List Stored) (from to : ℕ) (service : State) → 1 ≤ from → from ≤ to + 1 → to ≤ length log
    → service.contents ≡ contents_after (take (from - 1) log)
    → AreAnswers me log from to (run_all me from (entries_between log from to) service).answers
