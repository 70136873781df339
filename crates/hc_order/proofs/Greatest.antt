-- The greatest of the numbers that enough of them reach is the greatest number that enough of them reach.
use Rattle.std.proofs.Common.{◌≡◌, ◌<◌, ◌≤◌, ◌⊎◌, inl, inr, ℕ, suc, zero, ◌+◌, cond, Bool, true, List, [], ◌∷◌, length, get_or, refl, ap, ◌∙◌, arith}
use Rattle.std.specs.Prelude.{max, nat_le, filter, fold, All}
use Rattle.std.proofs.lemmas.Bool.{cases_Bool, le-leb, leb-true, leb-false}
use Rattle.std.proofs.lemmas.List.Elements.{All-weaker, filter_passes}
use Rattle.std.proofs.lemmas.List.Sums.{sum_by-cons}
use Rattle.hc_order.specs.Counting.{reaching, counted, IsCounted}

-- the greatest of a number and those of a list
fold-max_least : (a : ℕ) (xs : List ℕ) → a ≤ fold max a xs
fold-max_least a [] = omega arith
fold-max_least a (x ∷ xs) = let more = fold-max_least (max a x) xs in omega (arith, more)

fold-max_each : (a : ℕ) (xs : List ℕ) → All (λ x. x ≤ fold max a xs) xs
fold-max_each a [] k d inside = absurd (omega arith)
fold-max_each a (x ∷ xs) zero d inside = let more = fold-max_least (max a x) xs in omega (arith, more)
fold-max_each a (x ∷ xs) (suc k) d inside = fold-max_each (max a x) xs k d (omega arith)

-- it is that number, or one of the list
fold-max_is : (P : ℕ → Type 0) (a : ℕ) (xs : List ℕ) → (P a ⊎ (a ≡ 0)) → All P xs → (P (fold max a xs) ⊎ (fold max a xs ≡ 0))
fold-max_is P a [] first each = first
fold-max_is P a (x ∷ xs) first each = fold-max_is P (max a x) xs (greater a x first (each 0 x (omega arith))) (λ k d inside. each (suc k) d (omega arith))
  where
    greater : (a x : ℕ) → (P a ⊎ (a ≡ 0)) → P x → (P (max a x) ⊎ (max a x ≡ 0))
    greater a x first own =
        elim (cases_Bool (nat_le x a)) [
          | inl t ↦ (let below = leb-true x a t in let same : max a x ≡ a = omega (arith, below) in rw same first)
          | inr f ↦ (let above = leb-false x a f in let same : max a x ≡ x = omega (arith, above) in rw same (inl own))
        ]

-- how many reach a number, where there is one more
reaching-cons : (x : ℕ) (xs : List ℕ) (m : ℕ) → reaching (x ∷ xs) m ≡ cond (nat_le m x) 1 0 + reaching xs m
reaching-cons x xs m = sum_by-cons (λ n. cond (nat_le m n) 1 0) x xs

reaching-yes : (x : ℕ) (xs : List ℕ) (m : ℕ) → m ≤ x → reaching (x ∷ xs) m ≡ 1 + reaching xs m
reaching-yes x xs m h = reaching-cons x xs m ∙ ap (λ b. cond b 1 0 + reaching xs m) (le-leb m x h)

reaching-no : (x : ℕ) (xs : List ℕ) (m : ℕ) → x < m → reaching (x ∷ xs) m ≡ reaching xs m
reaching-no x xs m h =
    elim (cases_Bool (nat_le m x)) [
      | inl t ↦ (let below = leb-true m x t in absurd (omega (arith, below, h)))
      | inr f ↦ (let count = reaching-cons x xs m ∙ ap (λ b. cond b 1 0 + reaching xs m) f in omega (arith, count))
    ]

le-or-lt : (a b : ℕ) → (a ≤ b) ⊎ (b < a)
le-or-lt a b =
    elim (cases_Bool (nat_le a b)) as (λ _. (a ≤ b) ⊎ (b < a)) [
      | inl t ↦ inl (leb-true a b t)
      | inr f ↦ inr (leb-false a b f)
    ]

-- a lower number is reached by as many
reaching-falls : (xs : List ℕ) (a b : ℕ) → a ≤ b → reaching xs b ≤ reaching xs a
reaching-falls [] a b h = omega arith
reaching-falls (x ∷ xs) a b h =
    let rest = reaching-falls xs a b h in
    elim (le-or-lt b x) as (λ _. reaching (x ∷ xs) b ≤ reaching (x ∷ xs) a) [
      | inl le ↦ omega (arith, rest, reaching-yes x xs b le, reaching-yes x xs a (omega (arith, le, h)))
      | inr lt ↦ (elim (le-or-lt a x) as (λ _. reaching (x ∷ xs) b ≤ reaching (x ∷ xs) a) [
        | inl le ↦ omega (arith, rest, reaching-no x xs b lt, reaching-yes x xs a le)
        | inr lower ↦ omega (arith, rest, reaching-no x xs b lt, reaching-no x xs a lower)
      ])
    ]

-- one of the numbers, not below m, that as many reach
record Least (xs : List ℕ) (m : ℕ) : Type 0 where
  at : ℕ
  inside : at < length xs
  above : m ≤ get_or xs at 0
  same : reaching xs (get_or xs at 0) ≡ reaching xs m

least-here : (x : ℕ) (xs : List ℕ) (m : ℕ) → m ≤ x → reaching xs x ≡ reaching xs m → Least (x ∷ xs) m
least-here x xs m le same =
    record { at = 0; inside = omega arith; above = le; same = omega (arith, same, reaching-yes x xs x (omega arith), reaching-yes x xs m le) }

least-later : (x : ℕ) (xs : List ℕ) (m : ℕ) (l : Least xs m) → (x < m ⊎ get_or xs l.at 0 ≤ x) → Least (x ∷ xs) m
least-later x xs m l side =
    record {
      at = suc l.at;
      inside = omega (arith, l.inside);
      above = l.above;
      same = elim side as (λ _. reaching (x ∷ xs) (get_or xs l.at 0) ≡ reaching (x ∷ xs) m) [
        | inl lower ↦ omega (arith, l.same, reaching-no x xs (get_or xs l.at 0) (omega (arith, l.above, lower)), reaching-no x xs m lower)
        | inr le ↦ omega (arith, l.same, reaching-yes x xs (get_or xs l.at 0) le, reaching-yes x xs m (omega (arith, l.above, le)))
      ];
    }

least : (xs : List ℕ) (m : ℕ) → (reaching xs m ≡ 0) ⊎ Least xs m
least [] m = inl refl
least (x ∷ xs) m =
    elim (le-or-lt m x) as (λ _. (reaching (x ∷ xs) m ≡ 0) ⊎ Least (x ∷ xs) m) [
      | inr lower ↦ elim (least xs m) as (λ _. (reaching (x ∷ xs) m ≡ 0) ⊎ Least (x ∷ xs) m) [
        | inl none ↦ inl (reaching-no x xs m lower ∙ none)
        | inr l ↦ inr (least-later x xs m l (inl lower))
      ]
      | inl le ↦ elim (least xs m) as (λ _. (reaching (x ∷ xs) m ≡ 0) ⊎ Least (x ∷ xs) m) [
        | inl none ↦ inr (least-here x xs m le (let falls = reaching-falls xs m x le in omega (arith, none, falls)))
        | inr l ↦ (elim (le-or-lt (get_or xs l.at 0) x) as (λ _. (reaching (x ∷ xs) m ≡ 0) ⊎ Least (x ∷ xs) m) [
          | inl below ↦ inr (least-later x xs m l (inr below))
          | inr higher ↦ inr (least-here x xs m le (let low = reaching-falls xs m x le in let high = reaching-falls xs x (get_or xs l.at 0) (omega (arith, higher)) in omega (arith, low, high, l.same)))
        ])
      ]
    ]

-- one that passes is not left out
kept : (p : ℕ → Bool) (P : ℕ → Type 0) (xs : List ℕ) (k : ℕ) → k < length xs → p (get_or xs k 0) ≡ true → All P (filter p xs) → P (get_or xs k 0)
kept p P [] k inside passes each = absurd (omega arith)
kept p P (x ∷ xs) zero inside passes each = let all = rw passes at each in all 0 x (omega arith)
kept p P (x ∷ xs) (suc k) inside passes each =
    elim (cases_Bool (p x)) [
      | inl t ↦ (let all = rw t at each in kept p P xs k (omega arith) passes (λ j d h. all (suc j) d (omega arith)))
      | inr f ↦ (let all = rw f at each in kept p P xs k (omega arith) passes all)
    ]

-- every number reaches 0
all_reach : (xs : List ℕ) → reaching xs 0 ≡ length xs
all_reach [] = refl
all_reach (x ∷ xs) = omega (arith, reaching-yes x xs 0 (omega arith), all_reach xs)

abbrev enough : List ℕ → ℕ → ℕ → Bool
enough reached need m = nat_le need (reaching reached m)

enough_reach : (reached : List ℕ) (need : ℕ) → need ≤ length reached → need ≤ reaching reached (fold max 0 (filter (enough reached need) reached))
enough_reach reached need most =
    let P : ℕ → Type 0 = λ m. need ≤ reaching reached m in
    let each = All-weaker (λ m. enough reached need m ≡ true) P (λ m t. leb-true need (reaching reached m) t) (filter (enough reached need) reached) (filter_passes (enough reached need) reached) in
    elim (fold-max_is P 0 (filter (enough reached need) reached) (inr refl) each) as (λ _. need ≤ reaching reached (fold max 0 (filter (enough reached need) reached))) [
      | inl reach ↦ reach
      | inr none ↦ rw none (omega (arith, most, all_reach reached))
    ]

is_greatest : (reached : List ℕ) (need other : ℕ) → 1 ≤ need → need ≤ reaching reached other → other ≤ fold max 0 (filter (enough reached need) reached)
is_greatest reached need other some reach =
    elim (least reached other) as (λ _. other ≤ fold max 0 (filter (enough reached need) reached)) [
      | inl none ↦ absurd (omega (arith, some, reach, none))
      | inr l ↦
          let passes : enough reached need (get_or reached l.at 0) ≡ true = le-leb need (reaching reached (get_or reached l.at 0)) (omega (arith, reach, l.same)) in
          let below = kept (enough reached need) (λ x. x ≤ fold max 0 (filter (enough reached need) reached)) reached l.at l.inside passes (fold-max_each 0 (filter (enough reached need) reached)) in
          omega (arith, below, l.above)
    ]

pub is_counted : (reached : List ℕ) (need : ℕ) → 1 ≤ need → need ≤ length reached → IsCounted reached need (counted reached need)
unfolding counted
is_counted reached need some most =
    record {
      reached_by = enough_reach reached need most;
      greatest = λ other reach. is_greatest reached need other some reach;
    }
