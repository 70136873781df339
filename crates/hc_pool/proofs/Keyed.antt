-- Requests under their ids, and the list of them.
use Rattle.std.proofs.Common.{◌≡◌, ◌≢◌, ℕ, suc, ◌<◌, true, false, not, List, [], ◌∷◌, ◌++◌, length, get_or, Option, Some, None, is_some, inl, inr, ap, sym, ◌∙◌, refl, subst, arith}
use Rattle.std.specs.List.{All, remove, slice_get}
use Rattle.std.specs.Map.{lookup, remove_entry, values_of}
use Rattle.std.proofs.lemmas.Bool.{cases_Bool, false≢true}
use Rattle.std.proofs.lemmas.List.{map-append}
use Rattle.std.proofs.lemmas.List.Elements.{All-push, All-append, All-filter}
use Rattle.std.proofs.lemmas.List.Kept.{AllPairs-filter}
use Rattle.r2_base.specs.declared.rid.Rid.{Rid}
use Rattle.r2_base.specs.Names.{same_rid}
use Rattle.r2_base.proofs.SameNames.{same_rid-true}
use Rattle.hc_pool.specs.declared.request.Request.{Request}
use Rattle.hc_pool.specs.Pool.{has_rid, request_of, waits_in, without, MayWait, IsPool}
use Rattle.hc_pool.specs.Keys.{AreUnderTheirIds}
use Rattle.hc_pool.proofs.Requests.{filter-none, IsPool-push, found_request, found_waits, first_once}

-- the others of requests under their ids
keyed_others : (e : Rid × Request) (es : List (Rid × Request)) → AreUnderTheirIds (e ∷ es) → AreUnderTheirIds es
keyed_others e es keyed k d h = keyed (suc k) d (omega arith)

-- the others of a pool
pool_others : (r : Request) (rs : List Request) → IsPool (r ∷ rs) → IsPool rs
pool_others r rs sound =
    record {
      requests = λ k d h. sound.requests (suc k) d (omega arith);
      ids = λ i j d before within. sound.ids (suc i) (suc j) d (omega arith) (omega arith);
    }

-- what is under an id is the request with this id
pub lookup_request : (rid : Rid) (es : List (Rid × Request)) → AreUnderTheirIds es → lookup (same_rid rid) es ≡ request_of rid (values_of es)
unfolding request_of
lookup_request rid [] keyed = refl
lookup_request rid (e ∷ es) keyed =
    let named : e.0 ≡ e.1.rid = keyed 0 e (omega arith) in
    elim (cases_Bool (same_rid rid e.1.rid)) [
      | inl t ↦ rw (named, t) refl
      | inr f ↦ rw (named, f) (lookup_request rid es (keyed_others e es keyed))
    ]

-- and by its parts
pub found_under : (rid : Rid) (es : List (Rid × Request)) (r : Request) → AreUnderTheirIds es → Some r ≡ lookup (same_rid rid) es
    → request_of rid (values_of es) ≡ Some (record { rid = rid; kind = r.kind; body = r.body })
found_under rid es r keyed found =
    found_request rid (values_of es) r (sym (found ∙ lookup_request rid es keyed))

-- no other request has the id of the first
others_apart : (rid : Rid) (r : Request) (rs : List Request) (k : ℕ) (d : Request) → IsPool (r ∷ rs) → same_rid rid r.rid ≡ true → k < length rs
    → has_rid rid (get_or rs k d) ≡ false
others_apart rid r rs k d sound named h =
    elim (cases_Bool (has_rid rid (get_or rs k d))) [
      | inr f ↦ f
      | inl t ↦
          let same : r.rid ≡ (get_or rs k d).rid = sym (same_rid-true rid r.rid named) ∙ same_rid-true rid (get_or rs k d).rid t in
          absurd (sound.ids 0 (suc k) d (omega arith) (omega arith) same)
    ]

-- without what is under an id the others are left
pub removed_request : (rid : Rid) (es : List (Rid × Request)) → AreUnderTheirIds es → IsPool (values_of es) → values_of (remove_entry (same_rid rid) es) ≡ without rid (values_of es)
unfolding without
removed_request rid [] keyed sound = refl
removed_request rid (e ∷ es) keyed sound =
    let named : e.0 ≡ e.1.rid = keyed 0 e (omega arith) in
    elim (cases_Bool (same_rid rid e.1.rid)) [
      | inl t ↦ rw (named, t) (sym (filter-none (has_rid rid) (values_of es) (λ k d h. others_apart rid e.1 (values_of es) k d sound t h)))
      | inr f ↦ rw (named, f) (ap (λ rs. e.1 ∷ rs) (removed_request rid es (keyed_others e es keyed) (pool_others e.1 (values_of es) sound)))
    ]

-- what holds of each entry holds of each that is left
pub All-removed : (P : Rid × Request → Type 0) (rid : Rid) (es : List (Rid × Request)) → All P es → All P (remove_entry (same_rid rid) es)
All-removed P rid [] each = each
All-removed P rid (e ∷ es) each =
    let others : All P es = λ k d h. each (suc k) d (omega arith) in
    elim (cases_Bool (same_rid rid e.0)) [
      | inl t ↦ rw t others
      | inr f ↦ rw f (All-append P (e ∷ []) (remove_entry (same_rid rid) es) (λ k d h. let first : k ≡ 0 = omega (arith, h) in rw first (each 0 d (omega arith))) (All-removed P rid es others))
    ]

-- a pool without a request
IsPool-without : (rid : Rid) (rs : List Request) → IsPool rs → IsPool (without rid rs)
unfolding without
IsPool-without rid rs sound =
    record {
      requests = All-filter (λ r. not (has_rid rid r)) MayWait rs sound.requests;
      ids = AllPairs-filter (λ a b. a.rid ≢ b.rid) (λ r. not (has_rid rid r)) rs sound.ids;
    }

-- what is left when the request with an id is taken out
pub IsKeyedPool-removed : (rid : Rid) (es : List (Rid × Request)) → IsPool (values_of es) → AreUnderTheirIds es
    → IsPool (values_of (remove_entry (same_rid rid) es)) × AreUnderTheirIds (remove_entry (same_rid rid) es)
IsKeyedPool-removed rid es sound keyed =
    let removed = removed_request rid es keyed sound in
    (subst IsPool (sym removed) (IsPool-without rid (values_of es) sound), All-removed (λ e. e.0 ≡ e.1.rid) rid es keyed)

-- and when the first one is
pub IsKeyedPool-first : (es : List (Rid × Request)) → IsPool (values_of es) → AreUnderTheirIds es → IsPool (values_of (remove es 0)) × AreUnderTheirIds (remove es 0)
IsKeyedPool-first [] sound keyed = (sound, keyed)
IsKeyedPool-first (e ∷ es) sound keyed = (pool_others e.1 (values_of es) sound, keyed_others e es keyed)

-- no other has its id
pub first_once-keyed : (es : List (Rid × Request)) (e : Rid × Request) → Some e ≡ slice_get es 0 → IsPool (values_of es) → waits_in e.1.rid (values_of (remove es 0)) ≡ false
first_once-keyed [] e is sound = cc
first_once-keyed (x ∷ xs) e is sound =
    let same : x ≡ e = cc in
    subst (λ (y : Rid × Request). waits_in y.1.rid (values_of xs) ≡ false) same (first_once x.1 (values_of xs) sound)

none-from_is_some : {X : Type 0} (o : Option X) → is_some o ≡ false → o ≡ None
none-from_is_some None e = refl
none-from_is_some (Some x) e = absurd (false≢true (sym e))

-- nothing is under a new id
pub nothing_under : (rid : Rid) (es : List (Rid × Request)) → AreUnderTheirIds es → waits_in rid (values_of es) ≡ false → lookup (same_rid rid) es ≡ None
nothing_under rid es keyed new =
    lookup_request rid es keyed ∙ none-from_is_some (request_of rid (values_of es)) (found_waits rid (values_of es) ∙ new)

-- a pool and one request more, under its id
pub values-push : (es : List (Rid × Request)) (r : Request) → values_of (es ++ (r.rid, r) ∷ []) ≡ values_of es ++ r ∷ []
values-push es r = map-append (λ (e : Rid × Request). e.1) es ((r.rid, r) ∷ [])

pub IsKeyedPool-push : (es : List (Rid × Request)) (r : Request) → IsPool (values_of es) → AreUnderTheirIds es → waits_in r.rid (values_of es) ≡ false → MayWait r
    → IsPool (values_of (es ++ (r.rid, r) ∷ [])) × AreUnderTheirIds (es ++ (r.rid, r) ∷ [])
IsKeyedPool-push es r sound keyed new may =
    (subst IsPool (sym (values-push es r)) (IsPool-push (values_of es) r sound new may), All-push (λ (e : Rid × Request). e.0 ≡ e.1.rid) es (r.rid, r) keyed refl)
