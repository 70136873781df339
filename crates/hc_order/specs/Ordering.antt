-- Ordering: a leader puts waiting requests to the end of its log, each for a member to answer.
use Rattle.std.specs.Prelude.{ℕ, zero, suc, ◌+◌, ◌≤◌, if◌then◌else◌, List, [], ◌∷◌, ◌++◌, length, Option, Some, None, All}
use Rattle.r2_base.specs.declared.entry.Entry.{Entry}
use Rattle.r2_base.specs.Limits.{greatest_number}
use Rattle.hc_log.specs.declared.stored.Stored.{Stored}
use Rattle.hc_log.specs.Log.{has_room, last_term}
use Rattle.hc_pool.specs.declared.request.Request.{Request}
use Rattle.hc_replier.specs.Queues.{Row, assign, choose}
use Rattle.hc_order.specs.Apart.{ShareNoRequest}

-- what a leader orders with: its log, the requests that wait, and what each member has to answer
pub record Waiting : Type 0 where
  pub log : List Stored
  pub pool : List Request
  pub queues : List Row

-- a request as an entry of a term, for a replier
abbrev pub entry_of : ℕ → ℕ → Request → Stored
entry_of term replier r =
    record { entry = record { term = term; kind = r.kind; rid = r.rid; replier = replier }; body = r.body }

-- the oldest request goes from the pool to the end of the log, and its replier has that index to answer
abbrev pub ordered_to : ℕ → Waiting → Request → List Request → ℕ → Waiting
ordered_to term w r later replier =
    record {
      log = w.log ++ entry_of term replier r ∷ [];
      pool = later;
      queues = assign w.queues replier (length w.log + 1);
    }

-- the same where the log has room for the oldest request and some member may answer it
abbrev pub next_from : ℕ → Waiting → List Request → Option ℕ → Option Waiting
next_from term w (r ∷ later) (Some replier) = if has_room w.log r.body then Some (ordered_to term w r later replier) else None
next_from term w _ _ = None

-- one request is ordered, where one may be
unfoldable pub next_ordered : ℕ → Waiting → Option Waiting
next_ordered term w = next_from term w w.pool (choose w.queues)

-- what one step leaves, where there is one
abbrev pub stepped : Waiting → Option Waiting → Waiting
stepped w None = w
stepped w (Some next) = next

-- what comes of it, where one step more is made
abbrev pub gone_on : (Waiting → Waiting) → Waiting → Option Waiting → Waiting
gone_on on w None = w
gone_on on w (Some next) = on next

-- requests are ordered, the oldest first, at most so many (HovercRaft, on bounded queues)
unfoldable pub ordered : ℕ → ℕ → Waiting → Waiting
ordered term zero w = w
ordered term (suc room) w = gone_on (ordered term room) w (next_ordered term w)

-- a leader of a term may order: no request waits that its log has, no entry of the log is of a later term, and no member has an
-- index to answer that the log doesn't reach
pub record IsReady (term : ℕ) (w : Waiting) : Type 0 where
  pub is_set : 1 ≤ term
  pub fits : term ≤ greatest_number
  pub latest : last_term w.log ≤ term
  pub apart : ShareNoRequest w.log w.pool
  pub given : All (λ row. All (λ index. index ≤ length w.log) row.given) w.queues

-- entries with one more, where there is one
abbrev pub with_some : List Entry → Option Entry → List Entry
with_some entries None = entries
with_some entries (Some e) = entries ++ e ∷ []
