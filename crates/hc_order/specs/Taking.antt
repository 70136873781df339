-- Taking: a member brings its log to what its leader ordered, as far as it has the bodies of the requests.
use Rattle.std.specs.Prelude.{◌≡◌, ℕ, ◌+◌, ◌<◌, ◌≤◌, ◌==◌, ◌&&◌, Bool, true, false, not, nat_lt, if◌then◌else◌, List, [], ◌∷◌, ◌++◌, length, take, drop, map, filter, fold, Option, slice_index_or, Some, None, All}
use Rattle.std.specs.List.{common_prefix_len, list_any}
use Rattle.std.specs.List.Sorted.{IsNonDecreasingBy}
use Rattle.r2_base.specs.declared.rid.Rid.{Rid}
use Rattle.r2_base.specs.declared.entry.Kind.{Kind}
use Rattle.r2_base.specs.declared.entry.Kind.TheVariants.{Blank, Write, Read}
use Rattle.r2_base.specs.declared.entry.Entry.{Entry}
use Rattle.r2_base.specs.Entry.{is_request}
use Rattle.r2_base.specs.Limits.{greatest_number}
use Rattle.r2_base.specs.Names.{same_rid}
use Rattle.hc_log.specs.declared.stored.Stored.{Stored}
use Rattle.hc_log.specs.Ranges.{IsStored}
use Rattle.hc_log.specs.Log.{has_room, last_term, stands_in, term_at}
use Rattle.hc_pool.specs.declared.request.Request.{Request}
use Rattle.hc_pool.specs.Pool.{request_of, waits_in, without}
use Rattle.hc_message.specs.Entry.{IsEntry}
use Rattle.hc_message.specs.Message.{AreOrdered, IsValid}
use Rattle.hc_message.specs.declared.msg.Msg.{Msg}
use Rattle.hc_message.specs.declared.msg.Msg.TheVariants.{Order}
use Rattle.hc_order.specs.Apart.{ShareNoRequest}

-- an entry of the log and one of an Order at the same index are the same where their terms are (Raft, section 5.3)
abbrev pub agrees : Stored → Entry → Bool
agrees s e = s.entry.term == e.term

-- how many of an Order's entries, from the first on, stand in the log after so many others
unfoldable pub agreeing : List Stored → ℕ → List Entry → ℕ
agreeing log at entries = common_prefix_len agrees (drop at log) entries

-- how much of the log stands, where it has the Order's entries up to an index and `rest` are the others: where the next one differs
-- the log is cut before it, unless that index is fixed, being committed or matched
abbrev pub cut_at : List Stored → ℕ → ℕ → List Entry → ℕ
cut_at log fixed reach [] = length log
cut_at log fixed reach (e ∷ later) = if nat_lt reach fixed then length log else reach

-- the requests of entries that were cut, in their order
unfoldable pub released : List Stored → List Request
released cut =
    map (λ s. record { rid = s.entry.rid; kind = s.entry.kind; body = s.body }) (filter (λ s. is_request s.entry.kind) cut)

-- the requests of entries that were cut may wait in a pool: none waits there, and none stands among those before it
pub record MayReturn (pool : List Request) (cut : List Stored) : Type 0 where
  pub stored : All IsStored cut
  pub fresh : All (λ s. is_request s.entry.kind ≡ true → waits_in s.entry.rid pool ≡ false) cut
  pub once : (i : ℕ) (d : Stored) → i < length cut → is_request (slice_index_or cut i d).entry.kind ≡ true
      → stands_in (slice_index_or cut i d).entry.rid (take i cut) ≡ false

-- whether two kinds are the same
abbrev pub same_kind : Kind → Kind → Bool
same_kind Blank Blank = true
same_kind Write Write = true
same_kind Read Read = true
same_kind _ _ = false

-- a waiting request that has the id of an entry: whether the entry may be appended with its body
abbrev pub may_append : List Stored → Entry → Request → Bool
may_append log e r = same_kind r.kind e.kind && not (stands_in e.rid log) && has_room log r.body

-- an entry with the body of its request, where it may be appended
abbrev pub with_body : List Stored → Entry → Option Request → Option Stored
with_body log e None = None
with_body log e (Some r) = if may_append log e r then Some (record { entry = e; body = r.body }) else None

-- an entry as it is appended: a blank one has no body, and another one the body that waits in the pool
abbrev pub next_stored : List Stored → List Request → Entry → Kind → Option Stored
next_stored log pool e Blank = Some (record { entry = e; body = [] })
next_stored log pool e Write = with_body log e (request_of e.rid pool)
next_stored log pool e Read = with_body log e (request_of e.rid pool)

-- the pool once an entry was appended: its request has left
abbrev pub pool_left : List Request → Entry → Kind → List Request
pool_left pool e Blank = pool
pool_left pool e Write = without e.rid pool
pool_left pool e Read = without e.rid pool

-- the log and the pool after one entry that is to be appended, where it may be
abbrev pub log_with : List Stored → Option Stored → List Stored
log_with log None = log
log_with log (Some s) = log ++ s ∷ []

abbrev pub pool_with : List Request → Entry → Option Stored → List Request
pool_with pool e None = pool
pool_with pool e (Some s) = pool_left pool e e.kind

-- a log and a pool once some of an Order's entries were appended, and how many were
pub record Grown : Type 0 where
  pub log : List Stored
  pub pool : List Request
  pub count : ℕ

-- nothing is appended
abbrev pub not_grown : List Stored → List Request → Grown
not_grown log pool = record { log = log; pool = pool; count = 0 }

-- one entry more was appended, before those that are counted
abbrev pub one_more : Grown → Grown
one_more g = record g { count = g.count + 1 }

-- an entry is appended, where it may be, and then what comes after it
abbrev pub grown_by : (List Stored → List Request → Grown) → List Stored → List Request → Entry → Option Stored → Grown
grown_by later log pool e None = not_grown log pool
grown_by later log pool e (Some s) = one_more (later (log_with log (Some s)) (pool_with pool e (Some s)))

-- an Order's entries are appended to a log, up to the first that may not be
unfoldable pub appending : List Stored → List Request → List Entry → Grown
appending log pool [] = not_grown log pool
appending log pool (e ∷ later) = grown_by (λ l p. appending l p later) log pool e (next_stored log pool e e.kind)

-- entries that may come after a log as far as their fields tell: in their ranges, and no term below one before it
pub record AreNext (log : List Stored) (entries : List Entry) : Type 0 where
  pub each : All IsEntry entries
  pub latest : All (λ e. last_term log ≤ e.term) entries
  pub never_fall : IsNonDecreasingBy (λ e. e.term) entries
  pub room : length log + length entries ≤ greatest_number

-- whether a member lacks the body of an entry
abbrev pub is_missing : List Stored → List Request → Entry → Bool
is_missing log pool e = is_request e.kind && not (stands_in e.rid log) && not (waits_in e.rid pool)

-- one id more, unless it is there
abbrev pub with_missing : List Stored → List Request → List Rid → Entry → List Rid
with_missing log pool ids e = if is_missing log pool e && not (list_any (same_rid e.rid) ids) then ids ++ e.rid ∷ [] else ids

-- the ids of the requests whose bodies a member lacks, each once, where it comes first
unfoldable pub missing : List Stored → List Request → List Entry → List Rid
missing log pool entries = fold (with_missing log pool) [] entries

-- what becomes of an Order's entries: the log and the pool then, how much of the old log stands, the entries that were appended
-- after it, the index up to which the log has the Order's entries, and the requests whose bodies are missing from there on
pub record Taken : Type 0 where
  pub log : List Stored
  pub pool : List Request
  pub keep : ℕ
  pub entries : List Entry
  pub upto : ℕ
  pub missing : List Rid

-- the same, from what was appended of the rest after an index
abbrev pub taken_with : ℕ → ℕ → List Entry → Grown → Taken
taken_with keep reach rest g =
    record {
      log = g.log;
      pool = g.pool;
      keep = keep;
      entries = take g.count rest;
      upto = reach + g.count;
      missing = missing g.log g.pool (drop g.count rest);
    }

-- what comes after the end of the log that stands: the rest of the Order, and nothing where the log goes on
abbrev pub after_end : ℕ → ℕ → List Entry → List Entry
after_end keep reach rest = if keep == reach then rest else []

-- so much of the log stands, and the bodies that were cut wait in the pool again
abbrev pub taken_after_cut : List Stored → List Request → ℕ → List Entry → ℕ → Taken
taken_after_cut log pool reach rest keep =
    taken_with keep reach rest (appending (take keep log) (pool ++ released (drop keep log)) (after_end keep reach rest))

-- the log has the Order's entries up to an index, and takes the rest
abbrev pub taken_from : List Stored → List Request → ℕ → List Entry → ℕ → Taken
taken_from log pool reach rest fixed = taken_after_cut log pool reach rest (cut_at log fixed reach rest)

-- the entries of an Order after so many others are taken, with no change up to the fixed index (Raft, section 5.3)
unfoldable pub taken : List Stored → List Request → ℕ → List Entry → ℕ → Taken
taken log pool at entries fixed =
    taken_from log pool (at + agreeing log at entries) (drop (agreeing log at entries) entries) fixed

-- of the messages an Order has entries, and they come after the previous one
abbrev pub taken_of : List Stored → List Request → Msg → ℕ → Taken
taken_of log pool (Order term leader prev_index prev_term term_start commit via entries) fixed = taken log pool prev_index entries fixed
taken_of log pool _ fixed = taken log pool 0 [] fixed

-- a member may take entries of an Order after so many others of its log: they are in their ranges, of terms up to some one and not
-- below that of the entry before them, what is fixed is in the log, and no request waits that the log has
pub record MayTakeAfter (log : List Stored) (pool : List Request) (at : ℕ) (entries : List Entry) (fixed : ℕ) : Type 0 where
  pub inside : at ≤ length log
  pub term : ℕ
  pub ordered : AreOrdered at (term_at log at) term entries
  pub fixed_inside : fixed ≤ length log
  pub apart : ShareNoRequest log pool

-- a member may take a message: it is a valid Order, whose previous entry is in the log with its term (Raft, section 5.3), what is
-- fixed is in the log, and no request waits that the log has
abbrev pub MayTake : List Stored → List Request → Msg → ℕ → Type 0
MayTake log pool (Order term leader prev_index prev_term term_start commit via entries) fixed =
    IsValid (Order term leader prev_index prev_term term_start commit via entries) × (prev_index ≤ length log)
    × (term_at log prev_index ≡ prev_term) × (fixed ≤ length log) × ShareNoRequest log pool
MayTake log pool _ fixed = ⊥
