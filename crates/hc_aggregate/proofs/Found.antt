-- What is found to be committed is reached by a majority, and is a number that a message may have.
use Rattle.std.proofs.Common.{◌≡◌, ◌≤◌, ◌<◌, ℕ, Bool, true, false, List, [], ◌∷◌, length, Some, None, max, refl, sym, subst, arith}
use Rattle.std.specs.Prelude.{All, filter, fold, nat_le, nat_lt, if◌then◌else◌}
use Rattle.std.proofs.lemmas.Bool.{and_parts, leb-true, ltb-true}
use Rattle.std.proofs.lemmas.List.Elements.{All-filter, All-head, All-tail}
use Rattle.r2_base.specs.Limits.{greatest_number}
use Rattle.hc_order.specs.Counting.{counted, reaching}
use Rattle.hc_order.proofs.Greatest.{is_counted}
use Rattle.hc_aggregate.specs.Group.{majority}
use Rattle.hc_aggregate.specs.Sound.{IsTally}
use Rattle.hc_aggregate.specs.Tally.{Tally, found, is_news, most_reached}

-- an index was found in a tally
pub record IsFound (t : Tally) (index : ℕ) : Type 0 where
  pub is : index ≡ most_reached t
  pub own : t.term_start ≤ index
  pub new : t.committed < index

news : (t : Tally) (m : ℕ) (test : Bool) (index : ℕ) → is_news t m ≡ test → (if test then Some m else None) ≡ Some index → (index ≡ m) × (is_news t m ≡ true)
news t m true index e is = (cc, e)
news t m false index e is = absurd cc

pub found-is : (t : Tally) (index : ℕ) → found t ≡ Some index → IsFound t index
unfolding found
found-is t index is =
    let test = news t (most_reached t) (is_news t (most_reached t)) index refl is in
    let parts = and_parts (nat_le t.term_start (most_reached t)) (nat_lt t.committed (most_reached t)) test.1 in
    record {
      is = test.0;
      own = omega (arith, test.0, leb-true t.term_start (most_reached t) parts.0);
      new = omega (arith, test.0, ltb-true t.committed (most_reached t) parts.1);
    }

-- the greatest of numbers that a message may have is one
fold-within : (xs : List ℕ) (a : ℕ) → a ≤ greatest_number → All (λ n. n ≤ greatest_number) xs → fold max a xs ≤ greatest_number
fold-within [] a few all = few
fold-within (x ∷ xs) a few all = fold-within xs (max a x) (omega (arith, few, All-head (λ n. n ≤ greatest_number) x xs all)) (All-tail (λ n. n ≤ greatest_number) x xs all)

counted-within : (xs : List ℕ) (need : ℕ) → All (λ n. n ≤ greatest_number) xs → counted xs need ≤ greatest_number
unfolding counted
counted-within xs need all =
    let p : ℕ → Bool = λ m. nat_le need (reaching xs m) in
    fold-within (filter p xs) 0 (omega arith) (All-filter p (λ n. n ≤ greatest_number) xs all)

pub found-within : (size : ℕ) (t : Tally) (index : ℕ) → IsTally size t → IsFound t index → index ≤ greatest_number
found-within size t index is found = subst (λ n. n ≤ greatest_number) (sym found.is) (counted-within t.reached (majority (length t.reached)) is.reached)

-- a majority of the members reach it
pub found-majority : (t : Tally) (index : ℕ) → 1 ≤ length t.reached → IsFound t index → majority (length t.reached) ≤ reaching t.reached index
found-majority t index some found =
    subst (λ n. majority (length t.reached) ≤ reaching t.reached n) (sym found.is)
    (is_counted t.reached (majority (length t.reached)) (omega arith) (omega (arith, some))).reached_by
