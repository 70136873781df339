-- What is noted of a datagram.
use Rattle.std.proofs.Common.{cond, ◌≡◌, ℕ, zero, suc, ◌+◌, ◌<◌, ◌||◌, ◌&&◌, Bool, true, false, List, [], ◌∷◌, ◌++◌, length, map, set, get_or, Option, None, Some, refl, sym, ap, ◌∙◌, arith, inl, inr, append_assoc, append-nil}
use Rattle.std.specs.Prelude.{◌==◌, is_some}
use Rattle.std.specs.List.{range_with_len}
use Rattle.std.proofs.lemmas.Bool.{cases_eq}
use Rattle.std.proofs.lemmas.Bool.Decides.{nat_tests}
use Rattle.std.proofs.lemmas.List.{ext_get_or, get_or-set_other, get_or-set_same, length-map, length-set}
use Rattle.std.proofs.lemmas.List.FromFn.{get_or-map-range_with_len, length-map-range_with_len}
use Rattle.r2_base.specs.declared.datagram.Datagram.{Datagram}
use Rattle.r2_base.specs.Limits.{id_limit}
use Rattle.r2_base.specs.Names.{same_addr}
use Rattle.hc_world.specs.Addresses.{client}
use Rattle.hc_world.specs.Notes.{answered_in, begun_id, capped, is_answered, is_id, replies_in, replies_to}
use Rattle.hc_world.specs.Steps.{AreSent, either, marked}
use Rattle.hc_world.proofs.Either.{answered-append, answered-length, either-assoc, either-length, map-same, or_false}
use Rattle.hc_world.proofs.Numbers.{capped-plus}
use Rattle.hc_world.proofs.Exact.{replies-append}

-- nothing more
either-none : (xs : List Bool) (ids : List ℕ) → length ids ≡ length xs → either xs (map (λ id. false) ids) ≡ xs
either-none [] ids same = refl
either-none (x ∷ xs) [] same = refl
either-none (x ∷ xs) (id ∷ ids) same =
    ap (λ (b : Bool). b ∷ either xs (map (λ id. false) ids)) (or_false x) ∙ ap (λ (rest : List Bool). x ∷ rest) (either-none xs ids (omega (arith, same)))

either-get : (xs ys : List Bool) (k : ℕ) → k < length xs → length ys ≡ length xs → get_or (either xs ys) k false ≡ (get_or xs k false || get_or ys k false)
either-get [] ys k inside same = absurd (omega (arith, inside))
either-get (x ∷ xs) [] k inside same = absurd (omega (arith, same))
either-get (x ∷ xs) (y ∷ ys) zero inside same = refl
either-get (x ∷ xs) (y ∷ ys) (suc k) inside same = either-get xs ys k (omega (arith, inside)) (omega (arith, same))

-- one id
either-one : (xs : List Bool) (n id : ℕ) → length xs ≡ n → id < n → either xs (map (λ k. id == k) (range_with_len 0 n)) ≡ set xs id true
either-one xs n id long inside =
    ext_get_or false _ _ (either-length xs _ ∙ sym (length-set xs id true))
    (λ k within.
    let here : k < length xs = omega (arith, within, either-length xs (map (λ k. id == k) (range_with_len 0 n))) in
    let at = either-get xs (map (λ k. id == k) (range_with_len 0 n)) k here (length-map-range_with_len (λ k. id == k) 0 n ∙ sym long) in
    let other : get_or (map (λ k. id == k) (range_with_len 0 n)) k false ≡ (id == k) = get_or-map-range_with_len (λ k. id == k) 0 n k k false (omega (arith, here, long)) (omega arith) in
    at ∙ ap (λ (b : Bool). get_or xs k false || b) other ∙ by k here)
  where
    or_true : (b : Bool) → (b || true) ≡ true
    or_true true = refl
    or_true false = refl

    by : (k : ℕ) → k < length xs → (get_or xs k false || (id == k)) ≡ get_or (set xs id true) k false
    by k here =
        elim (cases_eq k id) [
          | inl same ↦
              (let t : (id == k) ≡ true = grind (arith, nat_tests) in
              ap (λ (b : Bool). get_or xs k false || b) t ∙ or_true (get_or xs k false)
              ∙ sym (ap (λ (j : ℕ). get_or (set xs id true) j false) same ∙ get_or-set_same xs id true false (omega (arith, here, same))))
          | inr other ↦
              (let f : (id == k) ≡ false = grind (arith, nat_tests, other) in
              ap (λ (b : Bool). get_or xs k false || b) f ∙ or_false (get_or xs k false) ∙ sym (get_or-set_other xs id k true false other))
        ]

-- what one datagram answers
answers-one : (d : Datagram) (found : Option ℕ) → begun_id d ≡ found → (id : ℕ) → is_answered (d ∷ []) id ≡ (same_addr d.to client && is_id id found)
answers-one d found is id = or_false (replies_to id d) ∙ by
  where
    by : replies_to id d ≡ (same_addr d.to client && is_id id found)
    by = ap (λ (o : Option ℕ). same_addr d.to client && is_id id o) is

and_false : (b : Bool) → (b && false) ≡ false
and_false true = refl
and_false false = refl

pub note-none : (xs : List Bool) (d : Datagram) → length xs ≡ id_limit → begun_id d ≡ None → xs ≡ either xs (answered_in (d ∷ []))
unfolding answered_in
note-none xs d long none =
    let ids = range_with_len 0 id_limit in
    let all : map (is_answered (d ∷ [])) ids ≡ map (λ id. false) ids = map-same (is_answered (d ∷ [])) (λ id. false) ids (λ id. answers-one d None none id ∙ and_false (same_addr d.to client)) in
    let same = length-map-range_with_len (λ (id : ℕ). id) 0 id_limit in
    sym (ap (either xs) all ∙ either-none xs ids (sym (length-map ids (λ (id : ℕ). id)) ∙ same ∙ sym long))

pub note-some : (xs : List Bool) (d : Datagram) (id : ℕ) (b : Bool) → length xs ≡ id_limit → id < id_limit → begun_id d ≡ Some id → b ≡ same_addr d.to client
    → marked b id xs ≡ either xs (answered_in (d ∷ []))
unfolding answered_in
note-some xs d id b long inside some is =
    let ids = range_with_len 0 id_limit in
    let all : map (is_answered (d ∷ [])) ids ≡ map (λ k. b && (id == k)) ids = map-same (is_answered (d ∷ [])) (λ k. b && (id == k)) ids (λ k. answers-one d (Some id) some k ∙ ap (λ (x : Bool). x && (id == k)) (sym is)) in
    by b ∙ ap (either xs) (sym all)
  where
    same : length (range_with_len 0 id_limit) ≡ length xs
    same = sym (length-map (range_with_len 0 id_limit) (λ (id : ℕ). id)) ∙ length-map-range_with_len (λ (id : ℕ). id) 0 id_limit ∙ sym long

    by : (x : Bool) → marked x id xs ≡ either xs (map (λ k. x && (id == k)) (range_with_len 0 id_limit))
    by true = sym (either-one xs id_limit id long inside)
    by false = sym (either-none xs (range_with_len 0 id_limit) same)

-- and whether it is one reply more
pub count-one : (d : Datagram) (found : Option ℕ) → begun_id d ≡ found → replies_in (d ∷ []) ≡ cond (is_some found) 1 0
unfolding replies_in
count-one d found is = zero_plus (cond (is_some (begun_id d)) 1 0) ∙ ap (λ (o : Option ℕ). cond (is_some o) 1 0) is
  where
    zero_plus : (n : ℕ) → 0 + n ≡ n
    zero_plus n = omega arith

-- nothing was sent
pub sent-none : (old : List Datagram) (answered : List Bool) (replies : ℕ) → length answered ≡ id_limit → capped replies ≡ replies
    → AreSent [] old answered replies old answered replies
unfolding answered_in replies_in
sent-none old answered replies long small =
    let ids = range_with_len 0 id_limit in
    let same = length-map-range_with_len (λ (id : ℕ). id) 0 id_limit in
    record {
      datagrams = sym (append-nil old);
      ids = sym (either-none answered ids (sym (length-map ids (λ (id : ℕ). id)) ∙ same ∙ sym long));
      count = sym (ap capped (omega arith) ∙ small);
    }

-- one datagram more was sent
pub sent-more : (more old new : List Datagram) (answered next : List Bool) (replies count : ℕ) (d : Datagram) (next' : List Bool) (count' : ℕ) → length answered ≡ id_limit
    → AreSent more old answered replies new next count → next' ≡ either next (answered_in (d ∷ [])) → count' ≡ capped (count + replies_in (d ∷ []))
    → AreSent (more ++ d ∷ []) old answered replies (new ++ d ∷ []) next' count'
sent-more more old new answered next replies count d next' count' long sent is counts =
    record {
      datagrams = ap (λ (x : List Datagram). x ++ d ∷ []) sent.datagrams ∙ append_assoc old more (d ∷ []);
      ids =
          is ∙ ap (λ (x : List Bool). either x (answered_in (d ∷ []))) sent.ids
          ∙ either-assoc answered (answered_in more) (answered_in (d ∷ [])) (answered-length more ∙ sym long)
          ∙ ap (either answered) (sym (answered-append more (d ∷ [])));
      count =
          counts ∙ ap (λ (n : ℕ). capped (n + replies_in (d ∷ []))) sent.count ∙ sym (capped-plus (replies + replies_in more) (replies_in (d ∷ [])))
          ∙ ap capped (omega (arith, replies-append more (d ∷ [])));
    }

pub sent-length : (more old new : List Datagram) (answered next : List Bool) (replies count : ℕ) → length answered ≡ id_limit → AreSent more old answered replies new next count
    → length next ≡ id_limit
sent-length more old new answered next replies count long sent = ap (λ (x : List Bool). length x) sent.ids ∙ either-length answered (answered_in more) ∙ long
