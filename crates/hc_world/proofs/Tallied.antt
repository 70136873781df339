-- What is counted over all ids and all members.
use Rattle.std.proofs.Common.{◌≡◌, ℕ, ◌+◌, ◌<◌, ◌≤◌, max, Bool, true, false, List, [], ◌∷◌, ◌++◌, length, map, take, get_or, refl, sym, ap, ◌∙◌, arith}
use Rattle.std.specs.Prelude.{count_by}
use Rattle.std.proofs.lemmas.List.{length-take, map-append, take_more}
use Rattle.std.proofs.lemmas.List.Sums.{count_by-le-length, count_by_more_no, count_by_more_yes}
use Rattle.hc_world.specs.Seen.{greatest}

pub greatest-push : (ns : List ℕ) (n : ℕ) → greatest (ns ++ n ∷ []) ≡ max n (greatest ns)
greatest-push [] n = refl
greatest-push (m ∷ ns) n = by m n (greatest ns) _ (greatest-push ns n)
  where
    by : (m n g x : ℕ) → x ≡ max n g → max m x ≡ max n (max m g)
    by m n g x e = omega (arith, e)

pub greatest-more : {X : Type 0} (f : X → ℕ) (xs : List X) (i : ℕ) (x : X) → i < length xs → x ≡ get_or xs i x → greatest (map f (take (i + 1) xs)) ≡ max (f x) (greatest (map f (take i xs)))
greatest-more {X} f xs i x inside at =
    ap (λ (ys : List X). greatest (map f ys)) (take_more xs i x inside ∙ ap (λ (y : X). take i xs ++ y ∷ []) (sym at))
    ∙ ap greatest (map-append f (take i xs) (x ∷ [])) ∙ greatest-push (map f (take i xs)) (f x)

pub count-yes : (xs : List Bool) (i : ℕ) (b : Bool) → i < length xs → b ≡ get_or xs i b → b ≡ true → count_by (λ x. x) (take (i + 1) xs) ≡ count_by (λ x. x) (take i xs) + 1
count-yes xs i b inside at is = count_by_more_yes (λ x. x) xs i b inside (sym at ∙ is)

pub count-no : (xs : List Bool) (i : ℕ) (b : Bool) → i < length xs → b ≡ get_or xs i b → b ≡ false → count_by (λ x. x) (take (i + 1) xs) ≡ count_by (λ x. x) (take i xs)
count-no xs i b inside at is = count_by_more_no (λ x. x) xs i b inside (sym at ∙ is)

pub count-most : (xs : List Bool) (i : ℕ) → count_by (λ x. x) (take i xs) ≤ i
count-most xs i = let a = count_by-le-length (λ (x : Bool). x) (take i xs) in let b = length-take i xs in omega (arith, a, b)
