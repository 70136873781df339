-- Requests that are ordered, one after another.
use Rattle.std.proofs.Common.{◌≡◌, ◌<◌, ◌≤◌, ℕ, zero, suc, ◌+◌, Bool, true, false, List, ◌∷◌, ◌++◌, length, get_or, set, drop, refl, sym, ap, subst, ◌∙◌, arith, Option, Some, None, is_some}
use Rattle.std.specs.Prelude.{◌&&◌, All}
use Rattle.std.proofs.Math.Seq.{drop-append_seam}
use Rattle.std.proofs.lemmas.Bool.{false≢true}
use Rattle.std.proofs.lemmas.List.{drop-map, length-map, length_push}
use Rattle.std.proofs.lemmas.List.Elements.{All-head, All-tail, All-push, All-set, All-weaker, All-get_or}
use Rattle.std.proofs.lemmas.List.Folds.{list_any_at}
use Rattle.r2_base.specs.declared.entry.Entry.{Entry}
use Rattle.r2_base.specs.declared.entry.Kind.{Kind}
use Rattle.r2_base.specs.declared.entry.Kind.TheVariants.{Blank, Write, Read}
use Rattle.r2_base.specs.declared.rid.Rid.{Rid}
use Rattle.r2_base.specs.Entry.{NamesReplier, is_request}
use Rattle.r2_base.specs.Limits.{greatest_member, greatest_number}
use Rattle.r2_base.specs.Names.{same_rid}
use Rattle.r2_base.proofs.SameNames.{same_rid-sym}
use Rattle.hc_log.specs.declared.stored.Stored.{Stored}
use Rattle.hc_log.specs.Ranges.{IsStored}
use Rattle.hc_log.specs.Log.{asks_as, has_room, last_term, metas_of, stands_in, MayFollow}
use Rattle.hc_log.proofs.Counting.{last_term_more}
use Rattle.hc_log.proofs.Rooms.{requests_with_room_follow}
use Rattle.hc_pool.specs.declared.request.Request.{Request}
use Rattle.hc_pool.specs.Pool.{has_rid, waits_in, MayWait}
use Rattle.hc_replier.specs.Queues.{Row, empty_row, row_at, with_given}
use Rattle.hc_order.specs.Apart.{ShareNoRequest}
use Rattle.hc_order.specs.Ordering.{IsReady, Waiting, entry_of, gone_on, next_ordered, ordered, ordered_to, stepped}
use Rattle.hc_order.proofs.Apart.{share-push}
use Rattle.hc_order.proofs.Growing.{fits-request}

-- a member answers a request
names-replier : (k : Kind) (rid : Rid) (replier : ℕ) → is_request k ≡ true → replier ≤ greatest_member → NamesReplier k rid replier
names-replier Blank rid replier asks member = cc
names-replier Write rid replier asks member = member
names-replier Read rid replier asks member = member

-- a request that waits may follow the log that lacks it, where there is room
pub ordered-follows : (term replier : ℕ) (log : List Stored) (r : Request) → 1 ≤ term → term ≤ greatest_number → last_term log ≤ term → replier ≤ greatest_member → MayWait r
    → stands_in r.rid log ≡ false → has_room log r.body ≡ true → MayFollow log (entry_of term replier r)
ordered-follows term replier log r is_set fits latest member waits new room =
    let stored : IsStored (entry_of term replier r) =
    record { term_is_set = is_set; term_fits = fits; replier = names-replier r.kind r.rid replier waits.asks member; body = fits-request r.kind r.body waits.asks waits.body } in
    requests_with_room_follow log (entry_of term replier r) stored waits.asks latest new room

-- the oldest of those that wait isn't in the log
pub oldest-new : (term : ℕ) (w : Waiting) (r : Request) (later : List Request) → IsReady term w → w.pool ≡ r ∷ later → stands_in r.rid w.log ≡ false
oldest-new term w r later ready is =
    All-head (λ (x : Request). stands_in x.rid w.log ≡ false) r later (subst (ShareNoRequest w.log) is ready.apart)

-- no other request has the id of the one that is ordered
others-apart : (term replier : ℕ) (r : Request) (later : List Request) → waits_in r.rid later ≡ false → All (λ x. asks_as x.rid (entry_of term replier r) ≡ false) later
unfolding waits_in
others-apart term replier r later once k d h = asks-other (is_request r.kind) (fails (has_rid r.rid (get_or later k d)) refl)
  where
    fails : (b : Bool) → has_rid r.rid (get_or later k d) ≡ b → same_rid (get_or later k d).rid r.rid ≡ false
    fails false is = same_rid-sym (get_or later k d).rid r.rid ∙ is
    fails true is = absurd (false≢true (sym once ∙ list_any_at (has_rid r.rid) later k d h is))

    asks-other : (b : Bool) → same_rid (get_or later k d).rid r.rid ≡ false → (b && same_rid (get_or later k d).rid r.rid) ≡ false
    asks-other true e = e
    asks-other false e = refl

-- the indexes that a member has to answer, with the next one
given-more : (last : ℕ) (queues : List Row) (replier : ℕ) → replier < length queues → All (λ row. All (λ index. index ≤ last) row.given) queues
    → All (λ row. All (λ index. index ≤ last + 1) row.given) (set queues replier (with_given (row_at queues replier) (last + 1)))
given-more last queues replier inside given =
    let Old : Row → Type 0 = λ row. All (λ index. index ≤ last) row.given in
    let New : Row → Type 0 = λ row. All (λ index. index ≤ last + 1) row.given in
    let wider = λ (row : Row) (old : Old row). All-weaker (λ index. index ≤ last) (λ index. index ≤ last + 1) (λ index le. omega (arith, le)) row.given old in
    let own = row_at queues replier in
    let before : New own = wider own (All-get_or Old queues replier (empty_row 0) inside given) in
    All-set New queues replier (with_given own (last + 1)) (All-push (λ index. index ≤ last + 1) own.given (last + 1) before (omega arith)) (All-weaker Old New wider queues given)

-- a leader may order again
pub ready-more : (term replier : ℕ) (w : Waiting) (r : Request) (later : List Request) → IsReady term w → w.pool ≡ r ∷ later → waits_in r.rid later ≡ false → replier < length w.queues
    → IsReady term (ordered_to term w r later replier)
ready-more term replier w r later ready is once inside =
    let s = entry_of term replier r in
    let old = All-tail (λ (x : Request). stands_in x.rid w.log ≡ false) r later (subst (ShareNoRequest w.log) is ready.apart) in
    let long = length_push w.log s in
    record {
      is_set = ready.is_set;
      fits = ready.fits;
      latest = omega (arith, last_term_more w.log s);
      apart = share-push w.log later s old (others-apart term replier r later once);
      given = rw long (given-more (length w.log) w.queues replier inside ready.given);
    }

pub ready-same : (term : ℕ) (log log' : List Stored) (pool : List Request) (queues queues' : List Row) → IsReady term (record { log = log; pool = pool; queues = queues }) → log' ≡ log → queues' ≡ queues
    → IsReady term (record { log = log'; pool = pool; queues = queues' })
ready-same term log log' pool queues queues' ready l q =
    subst (λ (x : List Stored). IsReady term (record { log = x; pool = pool; queues = queues' })) (sym l)
    (subst (λ (x : List Row). IsReady term (record { log = log; pool = pool; queues = x })) (sym q) ready)

-- ordering by its steps
pub ordered-stop : (term room : ℕ) (w : Waiting) (o : Option Waiting) → next_ordered term w ≡ o → is_some o ≡ false → ordered term room w ≡ stepped w o
unfolding ordered
ordered-stop term zero w None is none = refl
ordered-stop term (suc room) w None is none = ap (gone_on (ordered term room) w) is
ordered-stop term room w (Some next) is none = cc

pub ordered-on : (term room : ℕ) (w : Waiting) (o : Option Waiting) → next_ordered term w ≡ o → is_some o ≡ true → ordered term (suc room) w ≡ ordered term room (stepped w o)
unfolding ordered
ordered-on term room w None is some = cc
ordered-on term room w (Some next) is some = ap (gone_on (ordered term room) w) is

pub ordered-done : (term room : ℕ) (w : Waiting) → room ≡ 0 → ordered term room w ≡ w
unfolding ordered
ordered-done term room w is = ap (λ (k : ℕ). ordered term k w) is

-- the entries that came after the old ones
pub told-after : (old new : List Stored) (items : List Entry) → metas_of new ≡ metas_of old ++ items → items ≡ metas_of (drop (length old) new)
told-after old new items is =
    let long : length (metas_of old) ≡ length old = length-map old (λ (s : Stored). s.entry) in
    sym (drop-append_seam (metas_of old) items)
    ∙ ap (λ n. drop n (metas_of old ++ items)) long
    ∙ ap (drop (length old)) (sym is)
    ∙ drop-map (λ (s : Stored). s.entry) (length old) new
