-- Entries that are appended, one after another.
use Rattle.std.proofs.Common.{◌≡◌, ◌<◌, ◌≤◌, ℕ, suc, ◌+◌, Bool, true, false, List, [], ◌∷◌, ◌++◌, length, get_or, drop, refl, sym, ap, subst, ◌∙◌, arith, Option, Some, None, is_some}
use Rattle.std.specs.Prelude.{◌&&◌, not, if◌then◌else◌}
use Rattle.std.proofs.lemmas.Bool.{and_parts, false≢true}
use Rattle.std.proofs.lemmas.List.{length_push, drop_more, drop_all}
use Rattle.r2_base.specs.declared.entry.Entry.{Entry}
use Rattle.r2_base.specs.declared.entry.Kind.{Kind}
use Rattle.r2_base.specs.declared.entry.Kind.TheVariants.{Blank, Write, Read}
use Rattle.r2_base.specs.Entry.{is_request}
use Rattle.r2_base.specs.Limits.{greatest_number, most_body}
use Rattle.hc_log.specs.declared.stored.Stored.{Stored}
use Rattle.hc_log.specs.Ranges.{FitsKind, IsStored}
use Rattle.hc_log.specs.Log.{has_room, last_term, requests_of, body_bytes_of, stands_in, IsWithinLimits, IsLog, MayFollow}
use Rattle.hc_log.proofs.Counting.{last_term_more, requests_of_more, body_bytes_of_more}
use Rattle.hc_log.proofs.Logs.{IsLog-limits}
use Rattle.hc_log.proofs.Rooms.{requests_with_room_follow}
use Rattle.hc_message.specs.Entry.{IsEntry}
use Rattle.hc_pool.specs.declared.request.Request.{Request}
use Rattle.hc_pool.specs.Pool.{request_of, IsPool, MayWait}
use Rattle.hc_pool.proofs.Requests.{found_fits}
use Rattle.hc_order.specs.Taking.{AreNext, Grown, appending, grown_by, log_with, may_append, next_stored, not_grown, one_more, pool_with, same_kind, with_body}

-- a blank entry has room where the log isn't the longest
blank-limits : (log : List Stored) (s : Stored) → IsLog log → length log < greatest_number → is_request s.entry.kind ≡ false → s.body ≡ [] → IsWithinLimits (log ++ s ∷ [])
blank-limits log s is_log room blank none =
    let limits = IsLog-limits log is_log in
    let requests : requests_of (log ++ s ∷ []) ≡ requests_of log = (let count = rw blank at (requests_of_more log s) in omega (arith, count)) in
    let empty : length s.body ≡ 0 = ap length none in
    let bytes : body_bytes_of (log ++ s ∷ []) ≡ body_bytes_of log = omega (arith, body_bytes_of_more log s, empty) in
    record {
      entries = omega (arith, length_push log s, room);
      requests = omega (arith, requests, limits.requests);
      body_bytes = omega (arith, bytes, limits.body_bytes);
    }

-- a blank entry may follow
pub blank-follows : (log : List Stored) (e : Entry) (body : List ℕ) → IsLog log → IsEntry e → last_term log ≤ e.term → length log < greatest_number → e.kind ≡ Blank → body ≡ []
    → MayFollow log (record { entry = e; body = body })
blank-follows log e body is_log entry latest room blank none =
    let no_request : is_request e.kind ≡ false = ap is_request blank in
    record {
      stored =
          record {
            term_is_set = entry.term.least;
            term_fits = entry.term.most;
            replier = entry.replier;
            body = subst (λ (k : Kind). FitsKind k body) (sym blank) none;
          };
      term = latest;
      is_new = λ asks. absurd (false≢true (sym no_request ∙ asks));
      limits = blank-limits log (record { entry = e; body = body }) is_log room no_request none;
    }

-- a body that fits a request
pub fits-request : (k : Kind) (body : List ℕ) → is_request k ≡ true → length body ≤ most_body → FitsKind k body
fits-request Blank body asks short = cc
fits-request Write body asks short = short
fits-request Read body asks short = short

-- an entry that may be appended with the body of a request may follow
pub request-follows : (log : List Stored) (e : Entry) (r : Request) → IsEntry e → last_term log ≤ e.term → is_request e.kind ≡ true → MayWait r → may_append log e r ≡ true
    → MayFollow log (record { entry = e; body = r.body })
request-follows log e r entry latest asks waits may =
    let outer = and_parts (same_kind r.kind e.kind && not (stands_in e.rid log)) (has_room log r.body) may in
    let inner = and_parts (same_kind r.kind e.kind) (not (stands_in e.rid log)) outer.0 in
    let stored : IsStored (record { entry = e; body = r.body }) =
    record { term_is_set = entry.term.least; term_fits = entry.term.most; replier = entry.replier; body = fits-request e.kind r.body asks waits.body } in
    requests_with_room_follow log (record { entry = e; body = r.body }) stored asks latest (not-true (stands_in e.rid log) inner.1) outer.1
  where
    not-true : (b : Bool) → not b ≡ true → b ≡ false
    not-true true e = cc
    not-true false e = refl

-- the body is there, so the entry may be appended with it
pub with_body-may : (log : List Stored) (e : Entry) (r : Request) → is_some (with_body log e (Some r)) ≡ true → may_append log e r ≡ true
with_body-may log e r some = by-test (may_append log e r) some
  where
    by-test : (b : Bool) → is_some {T = Stored} (if b then Some (record { entry = e; body = r.body }) else None) ≡ true → b ≡ true
    by-test true some = refl
    by-test false some = cc

-- what is to be appended, by its cases
pub record Appends (log : List Stored) (e : Entry) (s : Stored) : Type 0 where
  pub same : s.entry ≡ e
  pub follows : MayFollow log s

with_body-appends : (log : List Stored) (e : Entry) (s : Stored) (o : Option Request) → IsEntry e → last_term log ≤ e.term → is_request e.kind ≡ true
    → ((r : Request) → o ≡ Some r → MayWait r) → with_body log e o ≡ Some s → Appends log e s
with_body-appends log e s None entry latest asks waits is = cc
with_body-appends log e s (Some r) entry latest asks waits is = by-test (may_append log e r) refl is
  where
    by-test : (b : Bool) → may_append log e r ≡ b → (if b then Some (record { entry = e; body = r.body }) else None) ≡ Some s → Appends log e s
    by-test true may is =
        let same : record { entry = e; body = r.body } ≡ s = cc in
        subst (Appends log e) same (record { same = refl; follows = request-follows log e r entry latest asks (waits r refl) may })
    by-test false may is = cc

pub next-appends : (log : List Stored) (pool : List Request) (e : Entry) (s : Stored) (k : Kind) → IsLog log → IsPool pool → IsEntry e → last_term log ≤ e.term → length log < greatest_number
    → e.kind ≡ k → next_stored log pool e k ≡ Some s → Appends log e s
next-appends log pool e s Blank is_log is_pool entry latest room kind is =
    let same : record { entry = e; body = [] } ≡ s = cc in
    subst (Appends log e) same (record { same = refl; follows = blank-follows log e [] is_log entry latest room kind refl })
next-appends log pool e s Write is_log is_pool entry latest room kind is =
    with_body-appends log e s (request_of e.rid pool) entry latest (ap is_request kind) (λ r found. found_fits e.rid pool r is_pool.requests found) is
next-appends log pool e s Read is_log is_pool entry latest room kind is =
    with_body-appends log e s (request_of e.rid pool) entry latest (ap is_request kind) (λ r found. found_fits e.rid pool r is_pool.requests found) is

-- it has the entry that was to be appended
with_body-same : (log : List Stored) (e : Entry) (s : Stored) (o : Option Request) → with_body log e o ≡ Some s → s.entry ≡ e
with_body-same log e s None is = cc
with_body-same log e s (Some r) is = by-test (may_append log e r) is
  where
    by-test : (b : Bool) → (if b then Some (record { entry = e; body = r.body }) else None) ≡ Some s → s.entry ≡ e
    by-test true is = (let same : record { entry = e; body = r.body } ≡ s = cc in ap (λ (x : Stored). x.entry) (sym same))
    by-test false is = cc

pub next-same : (log : List Stored) (pool : List Request) (e : Entry) (s : Stored) (k : Kind) → next_stored log pool e k ≡ Some s → s.entry ≡ e
next-same log pool e s Blank is = (let same : record { entry = e; body = [] } ≡ s = cc in ap (λ (x : Stored). x.entry) (sym same))
next-same log pool e s Write is = with_body-same log e s (request_of e.rid pool) is
next-same log pool e s Read is = with_body-same log e s (request_of e.rid pool) is

-- what may come after a log, once the first of it is there
pub are-next-later : (log : List Stored) (e : Entry) (later : List Entry) (s : Stored) → AreNext log (e ∷ later) → s.entry ≡ e → AreNext (log ++ s ∷ []) later
are-next-later log e later s next same =
    let last : last_term (log ++ s ∷ []) ≡ e.term = last_term_more log s ∙ ap (λ (x : Entry). x.term) same in
    record {
      each = λ k d h. next.each (suc k) d (omega arith);
      latest = λ k d h. (let rises = next.never_fall 0 (suc k) d (omega arith) (omega arith) in omega (arith, last, rises));
      never_fall = λ i j d le h. next.never_fall (suc i) (suc j) d (omega arith) (omega arith);
      room = omega (arith, length_push log s, next.room);
    }

are-next-with : (log : List Stored) (pool : List Request) (e : Entry) (later : List Entry) (o : Option Stored) → next_stored log pool e e.kind ≡ o → is_some o ≡ true
    → AreNext log (e ∷ later) → AreNext (log_with log o) later
are-next-with log pool e later None is some next = cc
are-next-with log pool e later (Some s) is some next = are-next-later log e later s next (next-same log pool e s e.kind is)

-- appending by its steps
pub grown-none : (log : List Stored) (pool : List Request) (e : Entry) (later : List Entry) (o : Option Stored) → next_stored log pool e e.kind ≡ o → is_some o ≡ false
    → appending log pool (e ∷ later) ≡ not_grown log pool
unfolding appending
grown-none log pool e later None is none = ap (grown_by (λ l p. appending l p later) log pool e) is
grown-none log pool e later (Some s) is none = cc

pub grown-some : (log : List Stored) (pool : List Request) (e : Entry) (later : List Entry) (o : Option Stored) → next_stored log pool e e.kind ≡ o → is_some o ≡ true
    → appending log pool (e ∷ later) ≡ one_more (appending (log_with log o) (pool_with pool e o) later)
unfolding appending
grown-some log pool e later None is some = cc
grown-some log pool e later (Some s) is some = ap (grown_by (λ l p. appending l p later) log pool e) is

-- what was appended before, and what is appended then
abbrev pub after_more : ℕ → Grown → Grown
after_more i g = record g { count = i + g.count }

drop-here : (entries : List Entry) (i : ℕ) (e : Entry) → i < length entries → e ≡ get_or entries i e → drop i entries ≡ e ∷ drop (i + 1) entries
drop-here entries i e h is = drop_more entries i e h ∙ ap (λ (x : Entry). x ∷ drop (i + 1) entries) (sym is)

-- a loop that appends: one step more, its stop, and its end
module _ (first : Grown) (entries : List Entry) (i : ℕ) (log : List Stored) (pool : List Request) (so_far : first ≡ after_more i (appending log pool (drop i entries))) where
  pub grown-step : (e : Entry) (log' : List Stored) (pool' : List Request) → i < length entries → e ≡ get_or entries i e → is_some (next_stored log pool e e.kind) ≡ true
      → log' ≡ log_with log (next_stored log pool e e.kind) → pool' ≡ pool_with pool e (next_stored log pool e e.kind)
      → first ≡ after_more (i + 1) (appending log' pool' (drop (i + 1) entries))
  grown-step e log' pool' h is some l p =
      let step = grown-some log pool e (drop (i + 1) entries) (next_stored log pool e e.kind) refl some in
      let g = appending (log_with log (next_stored log pool e e.kind)) (pool_with pool e (next_stored log pool e e.kind)) (drop (i + 1) entries) in
      let count : i + (g.count + 1) ≡ i + 1 + g.count = omega arith in
      so_far ∙ ap (λ xs. after_more i (appending log pool xs)) (drop-here entries i e h is) ∙ ap (after_more i) step
      ∙ ap (λ (n : ℕ). record g { count = n }) count
      ∙ ap (λ (x : List Stored). after_more (i + 1) (appending x (pool_with pool e (next_stored log pool e e.kind)) (drop (i + 1) entries))) (sym l)
      ∙ ap (λ (x : List Request). after_more (i + 1) (appending log' x (drop (i + 1) entries))) (sym p)

  pub grown-stop : (e : Entry) (log' : List Stored) (pool' : List Request) → i < length entries → e ≡ get_or entries i e → is_some (next_stored log pool e e.kind) ≡ false
      → log' ≡ log_with log (next_stored log pool e e.kind) → pool' ≡ pool_with pool e (next_stored log pool e e.kind)
      → first ≡ record { log = log'; pool = pool'; count = i }
  grown-stop e log' pool' h is none l p =
      let step = grown-none log pool e (drop (i + 1) entries) (next_stored log pool e e.kind) refl none in
      let count : i + 0 ≡ i = omega arith in
      so_far ∙ ap (λ xs. after_more i (appending log pool xs)) (drop-here entries i e h is) ∙ ap (after_more i) step
      ∙ ap (λ (n : ℕ). record { log = log; pool = pool; count = n }) count
      ∙ ap (λ (x : List Stored). record { log = x; pool = pool; count = i }) (sym (l ∙ unchanged-log (next_stored log pool e e.kind) none))
      ∙ ap (λ (x : List Request). record { log = log'; pool = x; count = i }) (sym (p ∙ unchanged-pool (next_stored log pool e e.kind) none))
    where
      unchanged-log : (o : Option Stored) → is_some o ≡ false → log_with log o ≡ log
      unchanged-log None none = refl
      unchanged-log (Some s) none = cc

      unchanged-pool : (o : Option Stored) → is_some o ≡ false → pool_with pool e o ≡ pool
      unchanged-pool None none = refl
      unchanged-pool (Some s) none = cc

  pub grown-end : length entries ≤ i → first ≡ record { log = log; pool = pool; count = i }
  unfolding appending
  grown-end h =
      let count : i + 0 ≡ i = omega arith in
      so_far ∙ ap (λ xs. after_more i (appending log pool xs)) (drop_all i entries h) ∙ ap (λ (n : ℕ). record { log = log; pool = pool; count = n }) count

pub are-next-step : (entries : List Entry) (i : ℕ) (e : Entry) (log log' : List Stored) (pool : List Request) → i < length entries → e ≡ get_or entries i e
    → AreNext log (drop i entries) → is_some (next_stored log pool e e.kind) ≡ true → log' ≡ log_with log (next_stored log pool e e.kind) → AreNext log' (drop (i + 1) entries)
are-next-step entries i e log log' pool h is next some l =
    let all = subst (λ (xs : List Entry). AreNext log xs) (drop-here entries i e h is) next in
    subst (λ (xs : List Stored). AreNext xs (drop (i + 1) entries)) (sym l) (are-next-with log pool e (drop (i + 1) entries) (next_stored log pool e e.kind) refl some all)
