-- The first end of a line cuts bytes in one way.
use Rattle.std.proofs.Common.{◌≡◌, ◌≢◌, ◌≤◌, ℕ, List, [], ◌∷◌, ◌++◌, All, length, refl, sym, ap, ◌∙◌, arith}
use Rattle.std.proofs.lemmas.List.Elements.{All-head, All-tail}

abbrev NoEnd : List ℕ → Type 0
NoEnd text = All (λ b. b ≢ 10) text

head_other : (b : ℕ) (text : List ℕ) → NoEnd (b ∷ text) → b ≡ 10 → ⊥
head_other b text h = All-head (λ b. b ≢ 10) b text h

rest_of : (b : ℕ) (text : List ℕ) → NoEnd (b ∷ text) → NoEnd text
rest_of b text h = All-tail (λ b. b ≢ 10) b text h

same_head : (b c : ℕ) (x y : List ℕ) → b ∷ x ≡ c ∷ y → b ≡ c
same_head b c x y e = cc

same_rest : (b c : ℕ) (x y : List ℕ) → b ∷ x ≡ c ∷ y → x ≡ y
same_rest b c x y e = cc

-- two cuts of the same bytes at their first end of a line are one
pub same_cut : (x y a b : List ℕ) → All (λ b. b ≢ 10) x → All (λ b. b ≢ 10) y → x ++ 10 ∷ a ≡ y ++ 10 ∷ b → (x ≡ y) × (a ≡ b)
same_cut [] [] a b p q e = (refl, same_rest 10 10 a b e)
same_cut [] (d ∷ y) a b p q e = absurd (head_other d y q (sym (same_head 10 d a (y ++ 10 ∷ b) e)))
same_cut (c ∷ x) [] a b p q e = absurd (head_other c x p (same_head c 10 (x ++ 10 ∷ a) b e))
same_cut (c ∷ x) (d ∷ y) a b p q e =
    let heads = same_head c d (x ++ 10 ∷ a) (y ++ 10 ∷ b) e in
    let rests = same_cut x y a b (rest_of c x p) (rest_of d y q) (same_rest c d (x ++ 10 ∷ a) (y ++ 10 ∷ b) e) in
    (ap (λ z. z ∷ x) heads ∙ ap (λ z. d ∷ z) rests.0, rests.1)

-- a piece without an end of a line is no longer than what comes before the first one
pub no_longer : (x y a b : List ℕ) → All (λ b. b ≢ 10) y → x ++ 10 ∷ a ≡ y ++ b → length y ≤ length x
no_longer x [] a b q e = omega arith
no_longer [] (d ∷ y) a b q e = absurd (head_other d y q (sym (same_head 10 d a (y ++ b) e)))
no_longer (c ∷ x) (d ∷ y) a b q e =
    let short = no_longer x y a b (rest_of d y q) (same_rest c d (x ++ 10 ∷ a) (y ++ b) e) in
    omega (arith, short)
