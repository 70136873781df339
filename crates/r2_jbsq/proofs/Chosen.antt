-- The server that a request goes to, and that all are full where there is none.
use Rattle.std.proofs.Common.{◌≡◌, ◌<◌, ◌≤◌, ◌⊎◌, inl, inr, ℕ, suc, zero, Bool, true, false, List, [], ◌∷◌, length, get_or, refl, ap, arith}
use Rattle.std.specs.Prelude.{◌&&◌, nat_le, nat_lt, Some, None}
use Rattle.std.specs.List.{All, list_all, position_or_len}
use Rattle.std.proofs.lemmas.Bool.{le-leb, ltb-false, ltb-true, lt-ltb}
use Rattle.std.proofs.lemmas.Grind.{common_steps}
use Rattle.std.proofs.lemmas.List.{get_or_default}
use Rattle.std.proofs.lemmas.List.Quantifiers.{position-Some}
use Rattle.std.proofs.lemmas.List.Sums.{fails_before_first, list_all-from_AllPass}
use Rattle.r2_jbsq.specs.declared.routed_request.RoutedRequest.{RoutedRequest}
use Rattle.r2_jbsq.specs.Standing.{chosen, is_freest}

-- the chosen server is one, and holds fewer than n
pub record IsChosen (n : ℕ) (rows : List (List RoutedRequest)) (server : ℕ) : Type 0 where
  pub inside : server < length rows
  pub few : length (get_or rows server []) < n

both : (a b : Bool) → (a && b) ≡ true → a ≡ true
both true b e = refl
both false b e = e

pub chosen-Some : (n : ℕ) (rows : List (List RoutedRequest)) (server : ℕ) → chosen n rows ≡ Some server → IsChosen n rows server
unfolding chosen
chosen-Some n rows server e =
    let p = position-Some (is_freest n rows) rows server [] e in
    record { inside = p.0; few = ltb-true (length (get_or rows server [])) n (both _ _ p.1) }

-- some row of several is a shortest
record Shortest (rows : List (List RoutedRequest)) : Type 0 where
  at : ℕ
  inside : at < length rows
  least : All (λ (other : List RoutedRequest). length (get_or rows at []) ≤ length other) rows

All-cons : (P : List RoutedRequest → Type 0) (row : List RoutedRequest) (rows : List (List RoutedRequest)) → P row → All P rows → All P (row ∷ rows)
All-cons P row rows here after zero d h = here
All-cons P row rows here after (suc k) d h = after k d (omega arith)

by-test : (a b : ℕ) (t : Bool) → nat_lt b a ≡ t → (a ≤ b) ⊎ (b < a)
by-test a b true e = inr (ltb-true b a e)
by-test a b false e = inl (ltb-false b a e)

le-or-lt : (a b : ℕ) → (a ≤ b) ⊎ (b < a)
le-or-lt a b = by-test a b (nat_lt b a) refl

shortest : (row : List RoutedRequest) (rows : List (List RoutedRequest)) → Shortest (row ∷ rows)
shortest row [] = record { at = 0; inside = omega arith; least = All-cons (λ (other : List RoutedRequest). length row ≤ length other) row [] (omega arith) (λ k d h. absurd (omega (arith, h))) }
shortest row (next ∷ rows) =
    let rest = shortest next rows in
    elim (le-or-lt (length row) (length (get_or (next ∷ rows) rest.at []))) as (λ _. Shortest (row ∷ next ∷ rows)) [
      | inl le ↦ record {
        at = 0;
        inside = omega arith;
        least = All-cons (λ (other : List RoutedRequest). length row ≤ length other) row (next ∷ rows) (omega arith) (λ k d h. let l = rest.least k d h in omega (arith, l, le));
      }
      | inr lt ↦ record {
        at = suc rest.at;
        inside = omega (arith, rest.inside);
        least = All-cons (λ (other : List RoutedRequest). length (get_or (next ∷ rows) rest.at []) ≤ length other) row (next ∷ rows) (omega (arith, lt)) rest.least;
      }
    ]

-- none is chosen where none is freest
none-freest : (n : ℕ) (rows : List (List RoutedRequest)) (b : Bool) → nat_lt (position_or_len (is_freest n rows) rows) (length rows) ≡ b
    → chosen n rows ≡ None → (k : ℕ) → k < length rows → is_freest n rows (get_or rows k []) ≡ false
unfolding chosen
none-freest n rows true e none k h = cc
none-freest n rows false e none k h =
    fails_before_first (is_freest n rows) rows k [] (grind (arith, common_steps, e, h))

a-short-row : (n : ℕ) (rows : List (List RoutedRequest)) (k : ℕ) → k < length rows → length (get_or rows k []) < n → chosen n rows ≡ None → ⊥
a-short-row n [] k h few none = omega (arith, h)
a-short-row n (row ∷ rows) k h few none =
    let s = shortest row rows in
    let le : length (get_or (row ∷ rows) s.at []) ≤ length (get_or (row ∷ rows) k []) = s.least k [] h in
    let a : nat_lt (length (get_or (row ∷ rows) s.at [])) n ≡ true = lt-ltb (length (get_or (row ∷ rows) s.at [])) n (omega (arith, le, few)) in
    let b : list_all (λ (other : List RoutedRequest). nat_le (length (get_or (row ∷ rows) s.at [])) (length other)) (row ∷ rows) ≡ true =
    list_all-from_AllPass (λ (other : List RoutedRequest). nat_le (length (get_or (row ∷ rows) s.at [])) (length other)) (row ∷ rows)
    (λ j d i. le-leb (length (get_or (row ∷ rows) s.at [])) (length (get_or (row ∷ rows) j d)) (s.least j d i)) in
    let no : is_freest n (row ∷ rows) (get_or (row ∷ rows) s.at []) ≡ false = none-freest n (row ∷ rows) _ refl none s.at s.inside in
    let yes : is_freest n (row ∷ rows) (get_or (row ∷ rows) s.at []) ≡ true = rw (a, b) refl in
    cc

-- where none is chosen each server holds n
pub chosen-None : (n : ℕ) (rows : List (List RoutedRequest)) → All (λ (row : List RoutedRequest). length row ≤ n) rows → chosen n rows ≡ None
    → All (λ (row : List RoutedRequest). length row ≡ n) rows
chosen-None n rows within none k d h =
    let le : length (get_or rows k d) ≤ n = within k d h in
    let same : get_or rows k d ≡ get_or rows k [] = get_or_default rows k d [] h in
    let not_less : (length (get_or rows k d) < n → ⊥) = λ (lt : length (get_or rows k d) < n). a-short-row n rows k h (omega (arith, lt, ap length same)) none in
    omega (arith, le, not_less)
