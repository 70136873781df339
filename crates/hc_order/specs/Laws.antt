-- What holds of taking and of ordering.
use Rattle.std.specs.Prelude.{◌≡◌, ℕ, ◌+◌, ◌<◌, ◌≤◌, ◌⊎◌, ⊤, false, List, [], ◌∷◌, ◌++◌, length, take, drop, slice_index_or, Some, None}
use Rattle.r2_base.specs.declared.entry.Entry.{Entry}
use Rattle.hc_log.specs.declared.stored.Stored.{Stored}
use Rattle.hc_log.specs.Log.{IsLog, has_room, metas_of}
use Rattle.hc_pool.specs.declared.request.Request.{Request}
use Rattle.hc_pool.specs.Pool.{IsPool}
use Rattle.hc_replier.specs.Queues.{AreQueues, Row, assign, choose}
use Rattle.hc_order.specs.Apart.{ShareNoRequest}
use Rattle.hc_order.specs.Taking.{MayTakeAfter, Taken, agreeing, agrees, taken}
use Rattle.hc_order.specs.Ordering.{IsReady, Waiting, entry_of, ordered}

-- a log and a pool that a member may have beside each other
pub record AreBeside (log : List Stored) (pool : List Request) : Type 0 where
  pub is_log : IsLog log
  pub is_pool : IsPool pool
  pub apart : ShareNoRequest log pool

-- a taking leaves all as it is
pub record ChangesNothing (log : List Stored) (pool : List Request) (t : Taken) : Type 0 where
  pub same_log : t.log ≡ log
  pub same_pool : t.pool ≡ pool
  pub keep : t.keep ≡ length log
  pub nothing : t.entries ≡ []

-- at this place the log and the Order have different entries
pub record Differ (log : List Stored) (at stood : ℕ) (entries : List Entry) : Type 0 where
  pub inside : stood < length entries
  pub other : (s : Stored) (e : Entry) → agrees (slice_index_or log (at + stood) s) (slice_index_or entries stood e) ≡ false

-- a taking leaves what stood of the Order and all before it, and after that the log has the Order's next entries. What came there
-- was cut because it differs
pub record GoesOn (log : List Stored) (at stood : ℕ) (entries : List Entry) (t : Taken) : Type 0 where
  pub keep : t.keep ≡ at + stood
  pub reached : ℕ
  pub rises : stood ≤ reached
  pub few : reached ≤ length entries
  pub upto : t.upto ≡ at + reached
  pub appended : t.entries ≡ drop stood (take reached entries)
  pub added : List Stored
  pub log_is : t.log ≡ take (at + stood) log ++ added
  pub metas : metas_of added ≡ t.entries
  pub cause : at + stood < length log → Differ log at stood entries

-- what a taking leaves: a log and a pool that a member may have, with nothing cut that is fixed, and either all as it was, or the
-- Order's entries from the first that didn't stand up to some one
pub record IsTaken (log : List Stored) (pool : List Request) (at : ℕ) (entries : List Entry) (fixed : ℕ) (t : Taken) : Type 0 where
  pub beside : AreBeside t.log t.pool
  pub stays : fixed ≤ t.keep
  pub stood : at + agreeing log at entries ≤ t.upto
  pub upto : t.upto ≤ length t.log
  pub change : ChangesNothing log pool t ⊎ GoesOn log at (agreeing log at entries) entries t

-- each taking leaves that
abbrev pub TakingsAreRight : Type 0
TakingsAreRight =
    (log : List Stored) (pool : List Request) (at : ℕ) (entries : List Entry) (fixed : ℕ) → AreBeside log pool → MayTakeAfter log pool at entries fixed
    → IsTaken log pool at entries fixed (taken log pool at entries fixed)

-- requests as entries of a term, one for each of the repliers
abbrev pub entries_for : ℕ → List ℕ → List Request → List Stored
entries_for term [] pool = []
entries_for term (replier ∷ later) [] = []
entries_for term (replier ∷ later) (r ∷ pool) = entry_of term replier r ∷ entries_for term later pool

-- the queues once the indexes after the last one were given to the repliers, one after another
abbrev pub given_to : List Row → ℕ → List ℕ → List Row
given_to queues last [] = queues
given_to queues last (replier ∷ later) = given_to (assign queues replier (last + 1)) (last + 1) later

-- no further request may be ordered: none waits, no member may answer, or the log has no room for the oldest
abbrev pub MayOrderNone : Waiting → List Request → Type 0
MayOrderNone w [] = ⊤
MayOrderNone w (r ∷ later) = (choose w.queues ≡ None) ⊎ (has_room w.log r.body ≡ false)

-- what ordering leaves: the oldest requests went to the end of the log in their order, each for the member that is chosen after
-- those before it; it ended since there were as many as may be, or no further one may be ordered
pub record IsOrdered (term room : ℕ) (w v : Waiting) : Type 0 where
  pub repliers : List ℕ
  pub most : length repliers ≤ room
  pub waited : length repliers ≤ length w.pool
  pub rest : v.pool ≡ drop (length repliers) w.pool
  pub log_is : v.log ≡ w.log ++ entries_for term repliers w.pool
  pub given : v.queues ≡ given_to w.queues (length w.log) repliers
  pub chosen : (i : ℕ) (d : ℕ) → i < length repliers → choose (given_to w.queues (length w.log) (take i repliers)) ≡ Some (slice_index_or repliers i d)
  pub ended : (length repliers ≡ room) ⊎ MayOrderNone v v.pool

-- a leader with what a member may have, which may order, has that again
pub record MayOrder (term : ℕ) (w : Waiting) : Type 0 where
  pub beside : AreBeside w.log w.pool
  pub are_queues : AreQueues w.queues
  pub ready : IsReady term w

abbrev pub OrderingsAreRight : Type 0
OrderingsAreRight = (term room : ℕ) (w : Waiting) → MayOrder term w → MayOrder term (ordered term room w) × IsOrdered term room w (ordered term room w)
