-- Where requests stand: by a look at the entries, and by the places that are kept.
use Rattle.std.proofs.Common.{◌≡◌, ℕ, ◌+◌, ◌<◌, cond, not, List, [], ◌∷◌, ◌++◌, length, take, drop, get_or, Option, Some, None, is_some, ap, sym, ◌∙◌, refl, subst, inl, inr, ltb, eqb, arith, take-append-drop}
use Rattle.std.specs.Prelude.{Bool, true, false, ◌==◌, ◌&&◌, ◌||◌, nat_lt, nat_le, if◌then◌else◌}
use Rattle.std.specs.List.{position, position_or_len, list_any}
use Rattle.std.specs.Option.{option_map}
use Rattle.std.specs.declared.cmp.Ordering.{Ordering}
use Rattle.std.specs.declared.cmp.Ordering.TheVariants.{Less, Equal, Greater}
use Rattle.std.specs.Ordering.{is_eq, nat_cmp, ordering_then}
use Rattle.std.specs.BTreeMap as tree
use Rattle.std.proofs.lemmas.Bool.{cases_Bool, cases_lt, and_parts, ltb-true, ltb-false, le-leb, false≢true}
use Rattle.std.proofs.lemmas.List.{length_push, length-take, get_or-take, get_or_default}
use Rattle.std.proofs.lemmas.List.Folds.{list_any-append, list_any_at, list_any_none, position_or_len_push}
use Rattle.std.proofs.lemmas.List.Sums.{prefix_len-le-length}
use Rattle.std.proofs.lemmas.List.Quantifiers.{position-Some}
use Rattle.r2_base.specs.declared.rid.Rid.{Rid}
use Rattle.r2_base.specs.Entry.{is_request}
use Rattle.r2_base.specs.Names.{same_rid}
use Rattle.r2_base.proofs.SameNames.{same_rid-true, same_rid-sym}
use Rattle.hc_log.specs.declared.stored.Stored.{Stored}
use Rattle.hc_log.specs.Log.{blank_of, asks_as, stands_in, place_of, MayFollow}
use Rattle.hc_log.specs.Places.{rid_order, told_place}
use Rattle.hc_log.proofs.Logs.{is_some-position}

-- the order of ids finds two equal where their test does
nat_cmp-eq : (a b : ℕ) → is_eq (nat_cmp a b) ≡ (a == b)
nat_cmp-eq a b =
    elim (cases_Bool (nat_lt a b)) [
      | inl t ↦
          let less = ltb-true a b t in
          let apart : (a == b) ≡ false = grind (arith, less) in
          rw (t, apart) refl
      | inr f ↦ elim (cases_Bool (a == b)) [
        | inl e ↦ rw (f, e) refl
        | inr n ↦ rw (f, n) refl
      ]
    ]

then_eq : (o p : Ordering) → is_eq (ordering_then o p) ≡ (is_eq o && is_eq p)
then_eq Less p = refl
then_eq Equal p = refl
then_eq Greater p = refl

rid_order-eq : (a b : Rid) → is_eq (rid_order a b) ≡ same_rid a b
rid_order-eq a b =
    then_eq (nat_cmp a.id b.id) (ordering_then (nat_cmp a.client.ip b.client.ip) (nat_cmp a.client.port b.client.port))
    ∙ ap (λ r. is_eq (nat_cmp a.id b.id) && r) (then_eq (nat_cmp a.client.ip b.client.ip) (nat_cmp a.client.port b.client.port))
    ∙ ap (λ r. r && (is_eq (nat_cmp a.client.ip b.client.ip) && is_eq (nat_cmp a.client.port b.client.port))) (nat_cmp-eq a.id b.id)
    ∙ ap (λ r. (a.id == b.id) && (r && is_eq (nat_cmp a.client.port b.client.port))) (nat_cmp-eq a.client.ip b.client.ip)
    ∙ ap (λ r. (a.id == b.id) && ((a.client.ip == b.client.ip) && r)) (nat_cmp-eq a.client.port b.client.port)

-- what is told once a request's place has changed
pub told-changed : (old new : tree.BTreeMap Rid ℕ) (s : Stored) (place : Option ℕ) → is_request s.entry.kind ≡ true
    → ((q : Rid) → tree.get rid_order new q ≡ cond (tree.is_at (rid_order s.entry.rid) q) place (tree.get rid_order old q))
    → (rid : Rid) → told_place new rid ≡ (if asks_as rid s then place else told_place old rid)
unfolding told_place
told-changed old new s place asks changed rid =
    let other : is_eq (rid_order s.entry.rid rid) ≡ same_rid rid s.entry.rid = rid_order-eq s.entry.rid rid ∙ same_rid-sym s.entry.rid rid in
    let same : asks_as rid s ≡ same_rid rid s.entry.rid = ap (λ b. b && same_rid rid s.entry.rid) asks in
    changed rid ∙ ap (λ b. cond b place (tree.get rid_order old rid)) (other ∙ sym same)

-- an entry that is no request has no place
pub told-same : (places : tree.BTreeMap Rid ℕ) (s : Stored) (place : Option ℕ) → is_request s.entry.kind ≡ false
    → (rid : Rid) → told_place places rid ≡ (if asks_as rid s then place else told_place places rid)
told-same places s place blank rid =
    let same : asks_as rid s ≡ false = ap (λ b. b && same_rid rid s.entry.rid) blank in
    rw same refl

-- the same entries tell the same
pub told-unchanged : (old new : tree.BTreeMap Rid ℕ) → new.entries ≡ old.entries → (rid : Rid) → told_place new rid ≡ told_place old rid
unfolding told_place
told-unchanged old new same rid = rw same refl

-- nothing is told of no entries
pub told-none : (places : tree.BTreeMap Rid ℕ) → places.entries ≡ [] → (rid : Rid) → told_place places rid ≡ None
unfolding told_place
told-none places none rid = rw none refl

or-first : (a b : Bool) → (a || b) ≡ false → a ≡ false
or-first true b e = e
or-first false b e = refl

module _ {X : Type 0} (p : X → Bool) where
  none-from_is_some : (o : Option ℕ) → is_some o ≡ false → o ≡ None
  none-from_is_some None e = refl
  none-from_is_some (Some i) e = absurd (false≢true (sym e))

  -- no item passes
  position-none : (xs : List X) → list_any p xs ≡ false → position p xs ≡ None
  position-none xs none = none-from_is_some (position p xs) (is_some-position p xs ∙ none)

  past_end : (xs : List X) → position p xs ≡ None → position_or_len p xs ≡ length xs
  past_end xs e =
      elim (cases_Bool (ltb (position_or_len p xs) (length xs))) [
        | inl t ↦ (let some = rw t at e in cc)
        | inr f ↦ (let past = ltb-false (position_or_len p xs) (length xs) f in omega (arith, past, prefix_len-le-length (λ x. not (p x)) xs))
      ]

  -- the last item is the first that passes
  position-last : (xs : List X) (y : X) → list_any p xs ≡ false → p y ≡ true → position p (xs ++ y ∷ []) ≡ Some (length xs)
  position-last xs y none passes =
      let past = past_end xs (position-none xs none) in
      let at_end : eqb (position_or_len p xs) (length xs) ≡ true = grind (arith, past) in
      let here : position_or_len p (xs ++ y ∷ []) ≡ length xs = position_or_len_push p xs y ∙ rw (at_end, passes) (omega arith) in
      let less : ltb (length xs) (length xs + 1) ≡ true = grind arith in
      rw (here, length_push xs y, less) refl

  -- an item that fails isn't found
  position-fails : (xs : List X) (y : X) → p y ≡ false → position p (xs ++ y ∷ []) ≡ position p xs
  position-fails xs y fails =
      elim (cases_lt (position_or_len p xs) (length xs)) [
        | inl before ↦
            let inside : eqb (position_or_len p xs) (length xs) ≡ false = grind (arith, before) in
            let here : position_or_len p (xs ++ y ∷ []) ≡ position_or_len p xs = position_or_len_push p xs y ∙ rw inside refl in
            let less : ltb (position_or_len p xs) (length xs + 1) ≡ true = grind (arith, before) in
            let less_too : ltb (position_or_len p xs) (length xs) ≡ true = grind (arith, before) in
            rw (here, length_push xs y, less, less_too) refl
        | inr past ↦
            let same : position_or_len p xs ≡ length xs = omega (arith, past, prefix_len-le-length (λ x. not (p x)) xs) in
            let at_end : eqb (position_or_len p xs) (length xs) ≡ true = grind (arith, same) in
            let here : position_or_len p (xs ++ y ∷ []) ≡ length xs + 1 = position_or_len_push p xs y ∙ rw (at_end, fails) refl in
            let more : ltb (length xs + 1) (length xs + 1) ≡ false = grind arith in
            let more_too : ltb (length xs) (length xs) ≡ false = grind arith in
            rw (here, length_push xs y, more, same, more_too) refl
      ]

  -- whether one of the first items passes, from the place of the first that does
  any-take-none : (xs : List X) (n : ℕ) → list_any p xs ≡ false → list_any p (take n xs) ≡ false
  any-take-none xs n none =
      let both : (list_any p (take n xs) || list_any p (drop n xs)) ≡ false = sym (list_any-append p (take n xs) (drop n xs)) ∙ ap (list_any p) (take-append-drop n xs) ∙ none in
      or-first (list_any p (take n xs)) (list_any p (drop n xs)) both

  any-take-some : (xs : List X) (n i : ℕ) (d : X) → position p xs ≡ Some i → list_any p (take n xs) ≡ nat_le (i + 1) n
  any-take-some xs n i d found =
      let there = position-Some p xs i d found in
      elim (cases_lt i n) [
        | inl before ↦
            let inside : i < length (take n xs) = omega (arith, length-take n xs, before, there.0) in
            let same : get_or (take n xs) i d ≡ get_or xs i d = get_or-take n xs i d before in
            let yes : nat_le (i + 1) n ≡ true = le-leb (i + 1) n (omega (arith, before)) in
            list_any_at p (take n xs) i d inside (rw same there.1) ∙ sym yes
        | inr after ↦
            let no : nat_le (i + 1) n ≡ false = grind (arith, after) in
            list_any_none p (take n xs) (λ k e h.
            let before : k < n = omega (arith, h, length-take n xs) in
            let inside : k < length xs = omega (arith, h, length-take n xs) in
            let read : get_or (take n xs) k e ≡ get_or xs k d = get_or-take n xs k e before ∙ get_or_default xs k e d inside in
            rw read (there.2 k (omega (arith, before, after)))) ∙ sym no
      ]

-- a place counted from 1 is one where the place counted from 0 is
is_some-next : (o : Option ℕ) → is_some (option_map (λ before. before + 1) o) ≡ is_some o
is_some-next None = refl
is_some-next (Some i) = refl

any-take-next : {X : Type 0} (p : X → Bool) (xs : List X) (n index : ℕ) (d : X) (o : Option ℕ) → position p xs ≡ o → option_map (λ before. before + 1) o ≡ Some index → list_any p (take n xs) ≡ nat_le index n
any-take-next p xs n index d None found e = cc
any-take-next p xs n index d (Some i) found e =
    let next : i + 1 ≡ index = cc in
    any-take-some p xs n i d found ∙ ap (λ m. nat_le m n) next

any-take-place : {X : Type 0} (p : X → Bool) (xs : List X) (n index : ℕ) (d : X) → option_map (λ before. before + 1) (position p xs) ≡ Some index → list_any p (take n xs) ≡ nat_le index n
any-take-place p xs n index d some = any-take-next p xs n index d (position p xs) refl some

-- a request that may follow isn't in the log
pub follows_apart : (log : List Stored) (s : Stored) (rid : Rid) → MayFollow log s → asks_as rid s ≡ true → stands_in rid log ≡ false
follows_apart log s rid may asks =
    let parts = and_parts (is_request s.entry.kind) (same_rid rid s.entry.rid) asks in
    subst (λ r. stands_in r log ≡ false) (sym (same_rid-true rid s.entry.rid parts.1)) (may.is_new parts.0)

-- no entries have no places
pub place_of-none : (rid : Rid) → place_of rid [] ≡ None
unfolding place_of
place_of-none rid = refl

-- where requests stand once an entry is put after the others
pub place_of-push : (log : List Stored) (s : Stored) (rid : Rid) → MayFollow log s → place_of rid (log ++ s ∷ []) ≡ (if asks_as rid s then Some (length log + 1) else place_of rid log)
unfolding place_of stands_in
place_of-push log s rid may =
    elim (cases_Bool (asks_as rid s)) [
      | inl t ↦ rw (t, position-last (asks_as rid) log s (follows_apart log s rid may t) t) refl
      | inr f ↦ rw (f, position-fails (asks_as rid) log s f) refl
    ]

-- and once the last is taken out
pub place_of-pop : (log : List Stored) (s : Stored) (rid : Rid) → MayFollow log s → place_of rid log ≡ (if asks_as rid s then None else place_of rid (log ++ s ∷ []))
unfolding place_of stands_in
place_of-pop log s rid may =
    elim (cases_Bool (asks_as rid s)) [
      | inl t ↦ rw (t, position-none (asks_as rid) log (follows_apart log s rid may t)) refl
      | inr f ↦ rw (f, position-fails (asks_as rid) log s f) refl
    ]

-- a request with a place is in the log
pub stands-from_place : (rid : Rid) (log : List Stored) → is_some (place_of rid log) ≡ stands_in rid log
unfolding place_of stands_in
stands-from_place rid log = is_some-next (position (asks_as rid) log) ∙ is_some-position (asks_as rid) log

-- and among the first entries where its place is
pub within-None : (rid : Rid) (log : List Stored) (keep : ℕ) → place_of rid log ≡ None → stands_in rid (take keep log) ≡ false
unfolding place_of stands_in
within-None rid log keep none =
    any-take-none (asks_as rid) log keep (sym (is_some-position (asks_as rid) log) ∙ sym (is_some-next (position (asks_as rid) log)) ∙ ap is_some none)

pub within-Some : (rid : Rid) (log : List Stored) (keep index : ℕ) → place_of rid log ≡ Some index → stands_in rid (take keep log) ≡ nat_le index keep
unfolding place_of stands_in
within-Some rid log keep index some = any-take-place (asks_as rid) log keep index (blank_of 0) some
