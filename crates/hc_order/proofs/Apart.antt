-- A log and a pool that share no request, as they change.
use Rattle.std.proofs.Common.{◌≡◌, ◌≢◌, ◌<◌, ℕ, suc, Bool, true, false, List, [], ◌∷◌, ◌++◌, length, get_or, map, take, drop, refl, sym, ap, subst, ◌∙◌, inl, inr, arith, take-append-drop}
use Rattle.std.specs.Prelude.{◌&&◌, ◌||◌, not, filter, All}
use Rattle.std.proofs.lemmas.Bool.{cases_Bool, false≢true}
use Rattle.std.proofs.lemmas.List.{map-append}
use Rattle.std.proofs.lemmas.List.Elements.{All-append, All-cons, All-tail, All-filter, filter_passes, filter-append}
use Rattle.std.proofs.lemmas.List.Folds.{list_any-append, list_any_at, list_any_none}
use Rattle.std.proofs.lemmas.List.Kept.{AllPairs-filter}
use Rattle.r2_base.specs.declared.rid.Rid.{Rid}
use Rattle.r2_base.specs.Entry.{is_request}
use Rattle.r2_base.specs.Names.{same_rid}
use Rattle.r2_base.proofs.SameNames.{same_rid-true, same_rid-same, same_rid-sym}
use Rattle.hc_log.specs.declared.stored.Stored.{Stored}
use Rattle.hc_log.specs.Log.{asks_as, stands_in, FollowEach, IsLog}
use Rattle.hc_log.proofs.Formed.{FollowEach-from_log}
use Rattle.hc_log.proofs.Logs.{stands_in_both}
use Rattle.hc_pool.specs.declared.request.Request.{Request}
use Rattle.hc_pool.specs.Pool.{has_rid, waits_in, without, MayWait, IsPool}
use Rattle.hc_order.specs.Apart.{ShareNoRequest}
use Rattle.hc_order.specs.Taking.{released, MayReturn}

both-false : (a b : Bool) → (a || b) ≡ false → (a ≡ false) × (b ≡ false)
both-false true b e = cc
both-false false b e = (refl, e)

either-false : (a b : Bool) → a ≡ false → b ≡ false → (a || b) ≡ false
either-false true b e h = cc
either-false false b e h = h

-- a request that the log has doesn't wait
pub not-waiting : (log : List Stored) (pool : List Request) (rid : Rid) → ShareNoRequest log pool → stands_in rid log ≡ true → waits_in rid pool ≡ false
unfolding waits_in
not-waiting log pool rid apart stands =
    list_any_none (has_rid rid) pool (λ k d h.
    elim (cases_Bool (has_rid rid (get_or pool k d))) [
      | inr f ↦ f
      | inl t ↦
          let named : rid ≡ (get_or pool k d).rid = same_rid-true rid (get_or pool k d).rid t in
          let away : stands_in rid log ≡ false = subst (λ (x : Rid). stands_in x log ≡ false) (sym named) (apart k d h) in
          absurd (false≢true (sym away ∙ stands))
    ])

-- a log with one entry more
stands-one : (rid : Rid) (s : Stored) → stands_in rid (s ∷ []) ≡ asks_as rid s
unfolding stands_in
stands-one rid s = by-value (asks_as rid s)
  where
    by-value : (b : Bool) → (b || false) ≡ b
    by-value true = refl
    by-value false = refl

pub stands-push : (rid : Rid) (log : List Stored) (s : Stored) → stands_in rid log ≡ false → asks_as rid s ≡ false → stands_in rid (log ++ s ∷ []) ≡ false
stands-push rid log s old other =
    stands_in_both rid log (s ∷ []) ∙ either-false (stands_in rid log) (stands_in rid (s ∷ [])) old (stands-one rid s ∙ other)

-- a pool that has none of one entry more
pub share-push : (log : List Stored) (pool : List Request) (s : Stored) → ShareNoRequest log pool → All (λ r. asks_as r.rid s ≡ false) pool → ShareNoRequest (log ++ s ∷ []) pool
share-push log pool s apart others k d h = stands-push (get_or pool k d).rid log s (apart k d h) (others k d h)

-- the pool without a request has none with its id
pub without-others : (rid : Rid) (pool : List Request) → All (λ r. has_rid rid r ≡ false) (without rid pool)
unfolding without
without-others rid pool k d h = not-true (has_rid rid (get_or (filter (λ r. not (has_rid rid r)) pool) k d)) (filter_passes (λ r. not (has_rid rid r)) pool k d h)
  where
    not-true : (b : Bool) → not b ≡ true → b ≡ false
    not-true true e = cc
    not-true false e = refl

pub IsPool-without : (rid : Rid) (pool : List Request) → IsPool pool → IsPool (without rid pool)
unfolding without
IsPool-without rid pool sound =
    record {
      requests = All-filter (λ r. not (has_rid rid r)) MayWait pool sound.requests;
      ids = AllPairs-filter (λ a b. a.rid ≢ b.rid) (λ r. not (has_rid rid r)) pool sound.ids;
    }

pub share-without : (log : List Stored) (pool : List Request) (rid : Rid) → ShareNoRequest log pool → ShareNoRequest log (without rid pool)
unfolding without
share-without log pool rid apart = All-filter (λ r. not (has_rid rid r)) (λ r. stands_in r.rid log ≡ false) pool apart

-- an entry of a request, and the pool without that request
pub share-taken : (log : List Stored) (pool : List Request) (s : Stored) → ShareNoRequest log pool → ShareNoRequest (log ++ s ∷ []) (without s.entry.rid pool)
share-taken log pool s apart =
    share-push log (without s.entry.rid pool) s (share-without log pool s.entry.rid apart) (λ k d h.
    asks-other (is_request s.entry.kind) (get_or (without s.entry.rid pool) k d).rid s.entry.rid (without-others s.entry.rid pool k d h))
  where
    asks-other : (b : Bool) (rid other : Rid) → same_rid other rid ≡ false → (b && same_rid rid other) ≡ false
    asks-other true rid other e = same_rid-sym rid other ∙ e
    asks-other false rid other e = refl

-- entries that are cut, one after another
pub released-append : (xs ys : List Stored) → released (xs ++ ys) ≡ released xs ++ released ys
unfolding released
released-append xs ys =
    ap (map (λ (s : Stored). record { rid = s.entry.rid; kind = s.entry.kind; body = s.body })) (filter-append (λ (s : Stored). is_request s.entry.kind) xs ys)
    ∙ map-append (λ (s : Stored). record { rid = s.entry.rid; kind = s.entry.kind; body = s.body }) (filter (λ (s : Stored). is_request s.entry.kind) xs) (filter (λ (s : Stored). is_request s.entry.kind) ys)

pub nothing-released : released [] ≡ []
unfolding released
nothing-released = refl

pub released-one : (s : Stored) → is_request s.entry.kind ≡ true → released (s ∷ []) ≡ record { rid = s.entry.rid; kind = s.entry.kind; body = s.body } ∷ []
unfolding released
released-one s asks = rw asks refl

pub released-none : (s : Stored) → is_request s.entry.kind ≡ false → released (s ∷ []) ≡ []
unfolding released
released-none s blank = rw blank refl

-- a request was cut, or not
pub waits-released : (rid : Rid) (cut : List Stored) → waits_in rid (released cut) ≡ stands_in rid cut
unfolding released waits_in stands_in
waits-released rid [] = refl
waits-released rid (s ∷ later) =
    elim (cases_Bool (is_request s.entry.kind)) [
      | inl t ↦ (let more = waits-released rid later in rw t (ap (λ b. same_rid rid s.entry.rid || b) more))
      | inr f ↦ rw f (waits-released rid later)
    ]

pub waits-both : (rid : Rid) (xs ys : List Request) → waits_in rid (xs ++ ys) ≡ (waits_in rid xs || waits_in rid ys)
unfolding waits_in
waits-both rid xs ys = list_any-append (has_rid rid) xs ys

-- parts of a log
pub share-parts : (xs ys : List Stored) (pool : List Request) → ShareNoRequest (xs ++ ys) pool → ShareNoRequest xs pool × ShareNoRequest ys pool
share-parts xs ys pool apart = (
  (λ k d h. (parts k d h).0),
  (λ k d h. (parts k d h).1),
)
  where
    parts : (k : ℕ) (d : Request) → k < length pool → (stands_in (get_or pool k d).rid xs ≡ false) × (stands_in (get_or pool k d).rid ys ≡ false)
    parts k d h =
        both-false (stands_in (get_or pool k d).rid xs) (stands_in (get_or pool k d).rid ys) (sym (stands_in_both (get_or pool k d).rid xs ys) ∙ apart k d h)

pub share-cut : (keep : ℕ) (log : List Stored) (pool : List Request) → ShareNoRequest log pool → ShareNoRequest (take keep log) pool × ShareNoRequest (drop keep log) pool
share-cut keep log pool apart =
    share-parts (take keep log) (drop keep log) pool (subst (λ (xs : List Stored). ShareNoRequest xs pool) (sym (take-append-drop keep log)) apart)

-- what is cut follows what stands
cut-follows : (keep : ℕ) (log : List Stored) → IsLog log → FollowEach (take keep log) (drop keep log)
cut-follows keep log is_log =
    FollowEach-from_log (take keep log) (drop keep log) (subst IsLog (sym (take-append-drop keep log)) is_log)

-- a request at a place is in the list
stands_at : (xs : List Stored) (i : ℕ) (d : Stored) → i < length xs → is_request (get_or xs i d).entry.kind ≡ true → stands_in (get_or xs i d).entry.rid xs ≡ true
unfolding stands_in
stands_at xs i d h asks =
    let own : asks_as (get_or xs i d).entry.rid (get_or xs i d) ≡ true = rw asks (same_rid-same (get_or xs i d).entry.rid) in
    list_any_at (asks_as (get_or xs i d).entry.rid) xs i d h own

pub may-return : (keep : ℕ) (log : List Stored) (pool : List Request) → IsLog log → ShareNoRequest log pool → MayReturn pool (drop keep log)
may-return keep log pool is_log apart =
    let follow = cut-follows keep log is_log in
    let cut = drop keep log in
    record {
      stored = λ i d h. (follow i d h).stored;
      fresh = λ i d h asks. not-waiting cut pool (get_or cut i d).entry.rid (share-cut keep log pool apart).1 (stands_at cut i d h asks);
      once = λ i d h asks.
          (both-false (stands_in (get_or cut i d).entry.rid (take keep log)) (stands_in (get_or cut i d).entry.rid (take i cut))
          (sym (stands_in_both (get_or cut i d).entry.rid (take keep log) (take i cut)) ∙ (follow i d h).is_new asks)).1;
    }

-- the same of those after the first, once that one waits
pub may-return-later : (pool : List Request) (s : Stored) (later : List Stored) → MayReturn pool (s ∷ later) → MayReturn (pool ++ released (s ∷ [])) later
may-return-later pool s later may =
    record {
      stored = λ i d h. may.stored (suc i) d (omega arith);
      fresh = λ i d h asks. new-one (get_or later i d).entry.rid (may.fresh (suc i) d (omega arith) asks) (before i d h asks).0;
      once = λ i d h asks. (before i d h asks).1;
    }
  where
    before : (i : ℕ) (d : Stored) → i < length later → is_request (get_or later i d).entry.kind ≡ true
        → (stands_in (get_or later i d).entry.rid (s ∷ []) ≡ false) × (stands_in (get_or later i d).entry.rid (take i later) ≡ false)
    before i d h asks =
        both-false (stands_in (get_or later i d).entry.rid (s ∷ [])) (stands_in (get_or later i d).entry.rid (take i later))
        (sym (stands_in_both (get_or later i d).entry.rid (s ∷ []) (take i later)) ∙ may.once (suc i) d (omega arith) asks)

    new-one : (rid : Rid) → waits_in rid pool ≡ false → stands_in rid (s ∷ []) ≡ false → waits_in rid (pool ++ released (s ∷ [])) ≡ false
    new-one rid old other =
        waits-both rid pool (released (s ∷ [])) ∙ either-false (waits_in rid pool) (waits_in rid (released (s ∷ []))) old (waits-released rid (s ∷ []) ∙ other)

-- what was cut has nothing of what stands
released-apart : (kept cut : List Stored) → All (λ s. is_request s.entry.kind ≡ true → stands_in s.entry.rid kept ≡ false) cut → ShareNoRequest kept (released cut)
unfolding released
released-apart kept [] each = λ k d h. absurd (omega arith)
released-apart kept (s ∷ later) each =
    let rest = released-apart kept later (All-tail (λ s. is_request s.entry.kind ≡ true → stands_in s.entry.rid kept ≡ false) s later each) in
    elim (cases_Bool (is_request s.entry.kind)) [
      | inl t ↦ rw t (All-cons (λ (r : Request). stands_in r.rid kept ≡ false) (record { rid = s.entry.rid; kind = s.entry.kind; body = s.body })
          (map (λ (x : Stored). record { rid = x.entry.rid; kind = x.entry.kind; body = x.body }) (filter (λ (x : Stored). is_request x.entry.kind) later))
          (each 0 s (omega arith) t) rest)
      | inr f ↦ rw f rest
    ]

pub share-released : (keep : ℕ) (log : List Stored) (pool : List Request) → IsLog log → ShareNoRequest log pool → ShareNoRequest (take keep log) (pool ++ released (drop keep log))
share-released keep log pool is_log apart =
    let follow = cut-follows keep log is_log in
    let cut = drop keep log in
    All-append (λ (r : Request). stands_in r.rid (take keep log) ≡ false) pool (released cut) (share-cut keep log pool apart).0
    (released-apart (take keep log) cut (λ i d h asks.
    (both-false (stands_in (get_or cut i d).entry.rid (take keep log)) (stands_in (get_or cut i d).entry.rid (take i cut))
    (sym (stands_in_both (get_or cut i d).entry.rid (take keep log) (take i cut)) ∙ (follow i d h).is_new asks)).0))
