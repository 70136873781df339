-- The pieces that are kept, one more of them, and a range of a body.
use Rattle.std.proofs.Common.{◌≡◌, ◌≢◌, ◌<◌, ◌+◌, ◌-◌, inl, inr, ℕ, zero, suc, min, true, false, is_some, List, [], ◌++◌, Option, None, length, take, drop, set, unwrap_or, refl, ap, ◌∙◌, arith, add-one}
use Rattle.std.proofs.lemmas.Bool.{and_from, and_left, and_right, cases_eq}
use Rattle.std.proofs.lemmas.List.{drop_min, get_or-set_other, get_or-set_same, length-drop, take_min}
use Rattle.r2_frag.specs.Assembly.{has_all, joined, piece_at}

-- all below one number more are there, where that one is
pub has_all-more : (n : ℕ) (pieces : List (Option (List ℕ))) → has_all n pieces ≡ true → is_some (piece_at n pieces) ≡ true → has_all (n + 1) pieces ≡ true
unfolding has_all
has_all-more n pieces h e = rw add-one (and_from (has_all n pieces) (is_some (piece_at n pieces)) h e)

-- none are all
pub has_all-none : (pieces : List (Option (List ℕ))) → has_all 0 pieces ≡ true
unfolding has_all
has_all-none pieces = refl

-- where one is missing, not all are there
pub has_all-missing : (count n : ℕ) (pieces : List (Option (List ℕ))) → n < count → is_some (piece_at n pieces) ≡ false → has_all count pieces ≡ false
unfolding has_all
has_all-missing zero n pieces h e = absurd (omega arith)
has_all-missing (suc count) n pieces h e =
    elim (cases_eq n count) [
      | inl same ↦ and_right (has_all count pieces) (is_some (piece_at count pieces)) (rw (← same) e)
      | inr other ↦
          and_left (has_all count pieces) (is_some (piece_at count pieces)) (has_all-missing count n pieces (omega arith) e)
    ]

-- joined with the next piece
pub joined-more : (n : ℕ) (pieces : List (Option (List ℕ))) → joined (n + 1) pieces ≡ joined n pieces ++ unwrap_or (piece_at n pieces) []
unfolding joined
joined-more n pieces = rw add-one refl

-- none are joined to nothing
pub joined-none : (pieces : List (Option (List ℕ))) → joined 0 pieces ≡ []
unfolding joined
joined-none pieces = refl

-- one more piece changes no other place
pub piece_at-other : (n number : ℕ) (pieces : List (Option (List ℕ))) (piece : Option (List ℕ)) → n ≢ number → piece_at n (set pieces number piece) ≡ piece_at n pieces
piece_at-other n number pieces piece h = get_or-set_other pieces number n piece None h

-- and is found at its own
pub piece_at-same : (number : ℕ) (pieces : List (Option (List ℕ))) (piece : Option (List ℕ)) → number < length pieces → piece_at number (set pieces number piece) ≡ piece
piece_at-same number pieces piece h = get_or-set_same pieces number piece None h

-- a range that is cut at the end of the body
pub cut_range : (body : List ℕ) (k size start end : ℕ) → start ≡ min k (length body) → end ≡ min (start + size) (length body) → take (end - start) (drop start body) ≡ take size (drop k body)
cut_range body k size start end s e =
    let rest : List ℕ = drop k body in
    let same : drop start body ≡ rest = ap (λ (n : ℕ). drop n body) s ∙ drop_min k body in
    let left : end - start ≡ min size (length rest) = omega (arith, length-drop k body) in
    ap (λ (n : ℕ). take n (drop start body)) left ∙ ap (take (min size (length rest))) same ∙ take_min size rest

-- how all and joined go on
pub ruleset all_steps = (has_all-none, has_all-more, has_all-missing)

pub ruleset joined_steps = (joined-none, joined-more)
