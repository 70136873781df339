-- Looking for a request by its id, and taking it out.
use Rattle.std.proofs.Common.{◌≡◌, ◌≢◌, ◌<◌, ◌≤◌, ℕ, zero, suc, Bool, true, false, not, ltb, List, [], ◌∷◌, ◌++◌, length, get_or, take, drop, Some, None, is_some, inl, inr, ap, sym, subst, ◌∙◌, refl, arith}
use Rattle.std.specs.List.{All, filter, position, position_or_len, slice_get, remove}
use Rattle.std.proofs.lemmas.Bool.{cases_Bool, cases_order, false≢true, ltb-false}
use Rattle.std.proofs.lemmas.List.Elements.{All-push, All-append, All-take, All-drop}
use Rattle.std.proofs.lemmas.List.Folds.{find_at, list_any_at, list_any_none}
use Rattle.std.proofs.lemmas.List.Sums.{fails_before_first}
use Rattle.std.proofs.lemmas.List.Quantifiers.{all_pairs_push, all_pairs_remove, position-Some}
use Rattle.std.proofs.lemmas.List.{get_or_default}
use Rattle.std.proofs.lemmas.Option.{slice_get-get_or, slice_get_past}
use Rattle.r2_base.specs.declared.rid.Rid.{Rid}
use Rattle.r2_base.proofs.SameNames.{same_rid-true, same_rid-same}
use Rattle.hc_pool.specs.declared.request.Request.{Request}
use Rattle.hc_pool.specs.Pool.{has_rid, request_of, waits_in, without, MayWait, IsPool}

-- the request that is found has the id
pub request_of-rid : (rid : Rid) (pool : List Request) (r : Request) → request_of rid pool ≡ Some r → r.rid ≡ rid
unfolding request_of
request_of-rid rid [] r e = cc
request_of-rid rid (x ∷ xs) r e =
    elim (cases_Bool (has_rid rid x)) [
      | inl t ↦ (let same : x ≡ r = (let found = rw t at e in cc) in
          let named = same_rid-true rid x.rid t in
          cc)
      | inr f ↦ request_of-rid rid xs r (rw f at e)
    ]

-- the request that is found, by its parts
pub found_request : (rid : Rid) (pool : List Request) (r : Request) → request_of rid pool ≡ Some r → request_of rid pool ≡ Some (record { rid = rid; kind = r.kind; body = r.body })
found_request rid pool r found =
    found ∙ ap (λ x. Some (record { rid = x; kind = r.kind; body = r.body })) (request_of-rid rid pool r found)

module _ {X : Type 0} (p : X → Bool) where
  -- nothing passes the test, so nothing is left out
  pub filter-none : (xs : List X) → ((k : ℕ) (d : X) → k < length xs → p (get_or xs k d) ≡ false) → filter (λ x. not (p x)) xs ≡ xs
  filter-none [] fails = refl
  filter-none (x ∷ xs) fails =
      let first : p x ≡ false = fails 0 x (omega arith) in
      rw first (ap (λ ys. x ∷ ys) (filter-none xs (λ k d h. fails (suc k) d (omega arith))))

  -- one item alone passes, so the others are left
  filter-one : (xs : List X) (i : ℕ) (e : X) → i < length xs → p (get_or xs i e) ≡ true
      → ((k : ℕ) (d : X) → k < length xs → k ≢ i → p (get_or xs k d) ≡ false) → filter (λ x. not (p x)) xs ≡ take i xs ++ drop (suc i) xs
  filter-one [] i e h passes others = absurd (omega arith)
  filter-one (x ∷ xs) zero e h passes others =
      rw passes (filter-none xs (λ k d l. others (suc k) d (omega arith) (λ q. omega arith)))
  filter-one (x ∷ xs) (suc i) e h passes others =
      let first : p x ≡ false = others 0 x (omega arith) (λ q. omega arith) in
      rw first (ap (λ ys. x ∷ ys) (filter-one xs i e (omega arith) passes (λ k d l n. others (suc k) d (omega arith) (λ q. n (omega arith)))))

-- the first place is past the end, where there is none
no_place : {X : Type 0} (p : X → Bool) (xs : List X) → position p xs ≡ None → length xs ≤ position_or_len p xs
no_place p xs e =
    elim (cases_Bool (ltb (position_or_len p xs) (length xs))) [
      | inl t ↦ (let some = rw t at e in cc)
      | inr f ↦ ltb-false _ _ f
    ]

-- the place that was found is the first
first_place : {X : Type 0} (p : X → Bool) (xs : List X) (i : ℕ) → position p xs ≡ Some i → position_or_len p xs ≡ i
first_place p xs i e =
    elim (cases_Bool (ltb (position_or_len p xs) (length xs))) [
      | inl t ↦ (let some = rw t at e in cc)
      | inr f ↦ (let none = rw f at e in cc)
    ]

-- no request has the id
pub request_of-none : (rid : Rid) (pool : List Request) → position (has_rid rid) pool ≡ None → request_of rid pool ≡ None
unfolding request_of
request_of-none rid pool e = find_at (has_rid rid) pool ∙ slice_get_past pool _ (no_place (has_rid rid) pool e)

-- then all stay
pub without-none : (rid : Rid) (pool : List Request) → position (has_rid rid) pool ≡ None → without rid pool ≡ pool
unfolding without
without-none rid pool e =
    let past = no_place (has_rid rid) pool e in
    filter-none (has_rid rid) pool (λ k d h. fails_before_first (has_rid rid) pool k d (omega arith))

-- the request at the first place is the one that is found
found_at : (rid : Rid) (pool : List Request) (i : ℕ) (r : Request) → position (has_rid rid) pool ≡ Some i → i < length pool → request_of rid pool ≡ Some (get_or pool i r)
unfolding request_of
found_at rid pool i r e h =
    find_at (has_rid rid) pool ∙ ap (slice_get pool) (first_place (has_rid rid) pool i e) ∙ slice_get-get_or pool i r h

-- and so by its parts
pub request_of-at : (rid : Rid) (pool : List Request) (i : ℕ) (r : Request) → position (has_rid rid) pool ≡ Some i → r ≡ get_or pool i r
    → request_of rid pool ≡ Some (record { rid = rid; kind = r.kind; body = r.body })
request_of-at rid pool i r e read =
    let there = position-Some (has_rid rid) pool i r e in
    let found : request_of rid pool ≡ Some r = found_at rid pool i r e there.0 ∙ ap (λ (x : Request). Some x) (sym read) in
    found_request rid pool r found

-- another request has another id
fails_elsewhere : (rid : Rid) (pool : List Request) (i k : ℕ) (d : Request) → IsPool pool → i < length pool → k < length pool → k ≢ i
    → rid ≡ (get_or pool i d).rid → has_rid rid (get_or pool k d) ≡ false
fails_elsewhere rid pool i k d sound h l apart named =
    elim (cases_Bool (has_rid rid (get_or pool k d))) [
      | inr f ↦ f
      | inl t ↦
          let same : (get_or pool i d).rid ≡ (get_or pool k d).rid = sym named ∙ same_rid-true rid (get_or pool k d).rid t in
          elim (cases_order i k) [
            | inl e ↦ absurd (apart (sym e))
            | inr (inl before) ↦ absurd (sound.ids i k d before l same)
            | inr (inr behind) ↦ absurd (sound.ids k i d behind h (sym same))
          ]
    ]

-- no id is found twice, so taking that request out leaves the others
pub without-at : (rid : Rid) (pool : List Request) (i : ℕ) → IsPool pool → position (has_rid rid) pool ≡ Some i → remove pool i ≡ without rid pool
unfolding without
without-at rid [] i sound e = cc
without-at rid (x ∷ xs) i sound e =
    let there = position-Some (has_rid rid) (x ∷ xs) i x e in
    let named : rid ≡ (get_or (x ∷ xs) i x).rid = same_rid-true rid (get_or (x ∷ xs) i x).rid there.1 in
    sym (filter-one (has_rid rid) (x ∷ xs) i x there.0 there.1 (λ k d h apart.
    let read : get_or (x ∷ xs) i x ≡ get_or (x ∷ xs) i d = get_or_default (x ∷ xs) i x d there.0 in
    fails_elsewhere rid (x ∷ xs) i k d sound there.0 h apart (named ∙ ap (λ (r : Request). r.rid) read)))

-- a new id is found at no place
pub new_id : (pool : List Request) (r : Request) → waits_in r.rid pool ≡ false → (k : ℕ) (d : Request) → k < length pool → (get_or pool k d).rid ≢ r.rid
unfolding waits_in
new_id pool r new k d h e =
    let named : has_rid r.rid (get_or pool k d) ≡ true = rw e (same_rid-same r.rid) in
    false≢true (sym new ∙ list_any_at (has_rid r.rid) pool k d h named)

-- a pool with one request more, whose id is new
pub IsPool-push : (pool : List Request) (r : Request) → IsPool pool → waits_in r.rid pool ≡ false → MayWait r → IsPool (pool ++ r ∷ [])
IsPool-push pool r sound new may =
    record {
      requests = All-push MayWait pool r sound.requests may;
      ids = all_pairs_push (λ a b. a.rid ≢ b.rid) pool r sound.ids (new_id pool r new);
    }

-- a pool without one of its requests
pub IsPool-remove : (pool : List Request) (i : ℕ) → i < length pool → IsPool pool → IsPool (remove pool i)
IsPool-remove pool i h sound =
    record {
      requests = All-append MayWait (take i pool) (drop (suc i) pool) (All-take MayWait i pool sound.requests) (All-drop MayWait (suc i) pool sound.requests);
      ids = all_pairs_remove (λ a b. a.rid ≢ b.rid) pool i h sound.ids;
    }

-- a request is found exactly where one waits
pub found_waits : (rid : Rid) (pool : List Request) → is_some (request_of rid pool) ≡ waits_in rid pool
unfolding request_of waits_in
found_waits rid [] = refl
found_waits rid (x ∷ xs) =
    elim (cases_Bool (has_rid rid x)) [
      | inl t ↦ rw t refl
      | inr f ↦ rw f (found_waits rid xs)
    ]

pub waits-from_None : (rid : Rid) (pool : List Request) → request_of rid pool ≡ None → false ≡ waits_in rid pool
waits-from_None rid pool none = ap is_some (sym none) ∙ found_waits rid pool

pub waits-from_Some : (rid : Rid) (pool : List Request) (r : Request) → request_of rid pool ≡ Some r → true ≡ waits_in rid pool
waits-from_Some rid pool r some = ap is_some (sym some) ∙ found_waits rid pool

-- what is found may wait
pub found_fits : (rid : Rid) (pool : List Request) (r : Request) → All MayWait pool → request_of rid pool ≡ Some r → MayWait r
unfolding request_of
found_fits rid [] r each e = cc
found_fits rid (x ∷ xs) r each e =
    elim (cases_Bool (has_rid rid x)) [
      | inl t ↦ (let same : x ≡ r = (let found = rw t at e in cc) in subst MayWait same (each 0 x (omega arith)))
      | inr f ↦ found_fits rid xs r (λ k d h. each (suc k) d (omega arith)) (rw f at e)
    ]

-- no other request has the id of the first
pub first_once : (r : Request) (later : List Request) → IsPool (r ∷ later) → waits_in r.rid later ≡ false
unfolding waits_in
first_once r later sound =
    list_any_none (has_rid r.rid) later (λ k d h.
    elim (cases_Bool (has_rid r.rid (get_or later k d))) [
      | inr f ↦ f
      | inl t ↦ absurd (sound.ids 0 (suc k) d (omega arith) (omega arith) (same_rid-true r.rid (get_or later k d).rid t))
    ])

-- nor once that one is taken out
pub once-removed : (pool : List Request) (r : Request) → IsPool pool → 0 < length pool → r ≡ get_or pool 0 r → waits_in r.rid (remove pool 0) ≡ false
once-removed [] r sound some is = absurd (omega arith)
once-removed (x ∷ xs) r sound some is = rw is (first_once x xs sound)
