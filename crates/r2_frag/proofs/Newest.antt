-- The newest item that passes a test, looked for from the back.
use Rattle.std.proofs.Common.{◌≡◌, ◌<◌, ◌≤◌, ◌+◌, ◌-◌, inl, inr, ℕ, zero, suc, Bool, true, false, List, [], ◌∷◌, reverse, Some, None, length, take, refl, arith, add-one}
use Rattle.std.specs.List.{find, slice_get}
use Rattle.std.proofs.lemmas.Bool.{cases_Bool}
use Rattle.std.proofs.lemmas.List.{get_or-reverse, length-reverse, take_all}
use Rattle.std.proofs.lemmas.Option.{slice_get-get_or}

module _ {X : Type 0} (p : X → Bool) where
  -- what isn't among the first items, and is the next
  find-here : (xs : List X) (i : ℕ) (x : X) → slice_get xs i ≡ Some x → find p (take i xs) ≡ None → p x ≡ true → find p xs ≡ Some x
  find-here [] i x at none e = cc
  find-here (y ∷ ys) zero x at none e = let same : y ≡ x = cc in rw (same, e) refl
  find-here (y ∷ ys) (suc i) x at none e =
      elim (cases_Bool (p y)) [
        | inl t ↦ (let some = rw t at none in cc)
        | inr f ↦ rw f (find-here ys i x at (rw f at none) e)
      ]

  -- what isn't among the first items, nor the next
  find-past : (xs : List X) (i : ℕ) (x : X) → slice_get xs i ≡ Some x → find p (take i xs) ≡ None → p x ≡ false → find p (take (suc i) xs) ≡ None
  find-past [] i x at none e = cc
  find-past (y ∷ ys) zero x at none e = let same : y ≡ x = cc in rw (same, e) refl
  find-past (y ∷ ys) (suc i) x at none e =
      elim (cases_Bool (p y)) [
        | inl t ↦ (let some = rw t at none in cc)
        | inr f ↦ rw f (find-past ys i x at (rw f at none) e)
      ]

  -- the item at a place from the back
  at_back : (xs : List X) (i : ℕ) (x : X) → i < length xs → slice_get xs (length xs - i - 1) ≡ Some x → slice_get (reverse xs) i ≡ Some x
  at_back xs i x h at =
      let place : length xs - i - 1 ≡ length xs - 1 - i = omega arith in
      let inside : length xs - 1 - i < length xs = omega arith in
      let back : i < length (reverse xs) = rw length-reverse h in
      let there : slice_get xs (length xs - 1 - i) ≡ Some x = rw place at at in
      let read = slice_get-get_or xs (length xs - 1 - i) x inside in
      let turned = get_or-reverse xs i x h in
      let got = slice_get-get_or (reverse xs) i x back in
      cc

  -- the newest is this one, where none after it passes
  pub newest-here : (xs : List X) (i : ℕ) (x : X) → i < length xs → slice_get xs (length xs - i - 1) ≡ Some x → find p (take i (reverse xs)) ≡ None → p x ≡ true → find p (reverse xs) ≡ Some x
  newest-here xs i x h at none e = find-here (reverse xs) i x (at_back xs i x h at) none e

  -- one further back, where this one doesn't pass
  pub newest-past : (xs : List X) (i : ℕ) (x : X) → i < length xs → slice_get xs (length xs - i - 1) ≡ Some x → find p (take i (reverse xs)) ≡ None → p x ≡ false → find p (take (i + 1) (reverse xs)) ≡ None
  newest-past xs i x h at none e = rw add-one (find-past (reverse xs) i x (at_back xs i x h at) none e)

  -- none passes, where none of all does
  pub newest-none : (xs : List X) (i : ℕ) → length xs ≤ i → find p (take i (reverse xs)) ≡ None → find p (reverse xs) ≡ None
  newest-none xs i h none =
      let all : take i (reverse xs) ≡ reverse xs = take_all i (reverse xs) (rw length-reverse h) in
      rw all at none

  -- there is an item at each place from the back
  pub newest-inside : (xs : List X) (i : ℕ) → i < length xs → slice_get xs (length xs - i - 1) ≡ None → ⊥
  newest-inside [] i h none = omega arith
  newest-inside (y ∷ ys) i h none =
      let got = slice_get-get_or (y ∷ ys) (length (y ∷ ys) - i - 1) y (omega arith) in cc
