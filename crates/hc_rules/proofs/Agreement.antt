-- The agreed list: committed prefixes are prefixes of one list, which only grows.
use Rattle.std.proofs.Common.{◌≡◌, ℕ, zero, suc, ◌<◌, ◌≤◌, ◌⊎◌, inl, inr, max, Bool, true, false, ◌==◌, ◌&&◌, nat_le, if◌then◌else◌, List, [], length, take, Some, refl, sym, ap, subst, ◌∙◌, arith}
use Rattle.std.proofs.lemmas.Bool.{and_parts, eqb-true, true≢false}
use Rattle.r2_base.specs.declared.entry.Entry.{Entry}
use Rattle.r2_base.specs.Entry.{is_request}
use Rattle.hc_rules.specs.Log.{Share, entry_at, term_at}
use Rattle.hc_rules.specs.Rules.{Rule, after}
use Rattle.hc_rules.specs.Conditions.{Allowed}
use Rattle.hc_rules.specs.Protocol.{ProtocolState, Committed, IsCommittedIn, backs}
use Rattle.hc_rules.specs.Kept.{Kept}
use Rattle.std.proofs.Common.{◌*◌, nat_lt, length-take-le, ltb-true, lt-ltb, leb-false}
use Rattle.std.proofs.lemmas.Bool.Decides.{nat_tests}
use Rattle.std.proofs.lemmas.Bool.{leb-true, le-leb, and_from, eq-eqb}
use Rattle.hc_rules.specs.Majority.{tally}
use Rattle.hc_rules.specs.Agreed.{HasAt, HasNoneTwice, IsAgreed, IsCommittedFront, agreed, agreed_up_to, committed_front, greatest, highest, is_committed}
use Rattle.hc_rules.specs.Kept.{WasCommitted}
use Rattle.hc_rules.proofs.Commits.{committed_grows, entry_shared}
use Rattle.hc_rules.proofs.Grows.{grows}
use Rattle.hc_rules.proofs.LaterLeaders.{cases_le, later_base, won_by}
use Rattle.hc_rules.proofs.Logs.{share_grown}
use Rattle.hc_rules.proofs.Parts.{leaves}
use Rattle.hc_rules.proofs.Puts.{same_or_not}
use Rattle.hc_rules.proofs.Shares.{share_none, share_self, share_less, share_take, share-sym, share-trans, term_same}
use Rattle.hc_rules.proofs.Steps.{steps_keep}

-- the test of a commitment, and what it means
test_true : (w : ProtocolState) (t m : ℕ) → is_committed w t m ≡ true → Committed w t m
test_true w t m h =
    let outer = and_parts (nat_lt 0 m && nat_le m (length (w.book t))) ((term_at (w.book t) m == t) && nat_lt w.size (2 * tally w.size (backs w.winner w.acks t m))) h in
    let first = and_parts (nat_lt 0 m) (nat_le m (length (w.book t))) outer.0 in
    let second = and_parts (term_at (w.book t) m == t) (nat_lt w.size (2 * tally w.size (backs w.winner w.acks t m))) outer.1 in
    record {
      here = ltb-true 0 m first.0;
      within = leb-true m (length (w.book t)) first.1;
      own = eqb-true (term_at (w.book t) m) t second.0;
      backed = ltb-true w.size (2 * tally w.size (backs w.winner w.acks t m)) second.1;
    }

true_test : (w : ProtocolState) (t m : ℕ) → Committed w t m → is_committed w t m ≡ true
true_test w t m c =
    and_from (nat_lt 0 m && nat_le m (length (w.book t))) ((term_at (w.book t) m == t) && nat_lt w.size (2 * tally w.size (backs w.winner w.acks t m)))
    (and_from (nat_lt 0 m) (nat_le m (length (w.book t))) (lt-ltb 0 m c.here) (le-leb m (length (w.book t)) c.within))
    (and_from (term_at (w.book t) m == t) (nat_lt w.size (2 * tally w.size (backs w.winner w.acks t m))) (eq-eqb (term_at (w.book t) m) t c.own) (lt-ltb w.size (2 * tally w.size (backs w.winner w.acks t m)) c.backed))

-- the greatest number that passes passes, or it is 0; and no other that passes is greater
passes_by : (p : ℕ → Bool) (n g : ℕ) (b : Bool) → p (suc n) ≡ b → (g ≡ 0) ⊎ (p g ≡ true) → ((if b then suc n else g) ≡ 0) ⊎ (p (if b then suc n else g) ≡ true)
passes_by p n g true e h = inr e
passes_by p n g false e h = h

greatest_passes : (p : ℕ → Bool) (n : ℕ) → (greatest p n ≡ 0) ⊎ (p (greatest p n) ≡ true)
greatest_passes p zero = inl refl
greatest_passes p (suc n) = passes_by p n (greatest p n) (p (suc n)) refl (greatest_passes p n)

covers_by : (p : ℕ → Bool) (n g m : ℕ) (b : Bool) → p (suc n) ≡ b → m ≤ suc n → p m ≡ true → (m ≤ n → m ≤ g) → m ≤ (if b then suc n else g)
covers_by p n g m true e l h rest = l
covers_by p n g m false e l h rest = rest (by (same_or_not m (suc n)))
  where
    by : (m ≡ suc n) ⊎ ((m == suc n) ≡ false) → m ≤ n
    by (inl f) = absurd (true≢false (sym h ∙ (ap p f ∙ e)))
    by (inr f) = grind (arith, nat_tests, f, l)

greatest_covers : (p : ℕ → Bool) (n m : ℕ) → m ≤ n → p m ≡ true → m ≤ greatest p n
greatest_covers p zero m l h = l
greatest_covers p (suc n) m l h = covers_by p n (greatest p n) m (p (suc n)) refl l h (λ k. greatest_covers p n m k h)

greatest_within : (p : ℕ → Bool) (n : ℕ) → greatest p n ≤ n
greatest_within p zero = omega arith
greatest_within p (suc n) = by (p (suc n)) (greatest p n) (greatest_within p n)
  where
    by : (b : Bool) (g : ℕ) → g ≤ n → (if b then suc n else g) ≤ suc n
    by true g h = omega arith
    by false g h = omega (arith, h)

pub highest_covers : (n : ℕ) (f : ℕ → ℕ) (v : ℕ) → v < n → f v ≤ highest n f
highest_covers zero f v h = absurd (omega (arith, h))
highest_covers (suc n) f v h = by (same_or_not v n) (λ low. highest_covers n f v low)
  where
    by : (v ≡ n) ⊎ ((v == n) ≡ false) → (v < n → f v ≤ highest n f) → f v ≤ max (f n) (highest n f)
    by (inl e) rest = omega (arith, ap f e)
    by (inr e) rest = let low : v < n = grind (arith, nat_tests, e, h) in omega (arith, rest low)

module _ (w : ProtocolState) (k : Kept w) where
  -- an index that is committed by a later term is above the earlier term's
  later_longer : (t m u n : ℕ) → Committed w t m → Committed w u n → t < u → m < n
  later_longer t m u n c d later = by (cases_le n m)
    where
      wins : (x : ℕ) × (w.winner u ≡ Some x)
      wins = won_by w k u (omega (arith, d.here, d.within))

      by : (n ≤ m) ⊎ (m < n) → m < n
      by (inr h) = h
      by (inl h) =
          let base = later_base w k t m c u wins.0 later wins.1 in
          let shape = k.winners.books_are_of_their_terms u wins.0 wins.1 in
          own_below n d.here d.own (omega (arith, h, base.here)) shape.begins shape.older
        where
          own_below : (n : ℕ) → 0 < n → term_at (w.book u) n ≡ u → n ≤ length (w.base u) → Share (length (w.base u)) (w.base u) (w.book u)
              → ((j : ℕ) → j < length (w.base u) → term_at (w.base u) (suc j) < u) → m < n
          own_below zero first own low begins older = absurd (omega (arith, first))
          own_below (suc j) first own low begins older = absurd (omega (arith, own, older j low, term_same (length (w.base u)) j (w.base u) (w.book u) low begins))

  pub one_term : (t u m : ℕ) → Committed w t m → Committed w u m → t ≡ u
  one_term t u m c d = by (same_or_not t u)
    where
      by : (t ≡ u) ⊎ ((t == u) ≡ false) → t ≡ u
      by (inl e) = e
      by (inr e) = order (cases_le t u)
        where
          order : (t ≤ u) ⊎ (u < t) → t ≡ u
          order (inl h) = let low : t < u = grind (arith, nat_tests, e, h) in absurd (omega (arith, later_longer t m u m c d low))
          order (inr h) = absurd (omega (arith, later_longer u m t m d c h))

  -- of two committed prefixes the shorter is a prefix of the longer
  pub fronts_agree : (t m u n : ℕ) → Committed w t m → Committed w u n → m ≤ n → Share m (w.book u) (w.book t)
  fronts_agree t m u n c d h = by (same_or_not t u)
    where
      by : (t ≡ u) ⊎ ((t == u) ≡ false) → Share m (w.book u) (w.book t)
      by (inl e) = subst (λ (x : ℕ). Share m (w.book x) (w.book t)) e (share_self m (w.book t) c.within)
      by (inr e) = order (cases_le t u)
        where
          order : (t ≤ u) ⊎ (u < t) → Share m (w.book u) (w.book t)
          order (inr l) = absurd (omega (arith, h, later_longer u n t m d c l))
          order (inl l) =
              let low : t < u = grind (arith, nat_tests, e, l) in
              let wins = won_by w k u (omega (arith, d.here, d.within)) in
              let base = later_base w k t m c u wins.0 low wins.1 in
              let begins = (k.winners.books_are_of_their_terms u wins.0 wins.1).begins in
              share-trans m (w.book u) (w.base u) (w.book t) (share-sym m (w.base u) (w.book u) (share_less m (length (w.base u)) (w.base u) (w.book u) base.here begins)) base

  -- what the fold over the terms up to one has found
  record IsBest (log : List Entry) (top : ℕ) : Type 0 where
    pub is_one : (log ≡ []) ⊎ IsCommittedFront w log
    pub covers : (t m : ℕ) → t ≤ top → Committed w t m → m ≤ length log

  front_is : (t : ℕ) → (committed_front w t ≡ []) ⊎ IsCommittedFront w (committed_front w t)
  front_is t = by (greatest_passes (is_committed w t) (length (w.book t)))
    where
      by : (greatest (is_committed w t) (length (w.book t)) ≡ 0) ⊎ (is_committed w t (greatest (is_committed w t) (length (w.book t))) ≡ true)
          → (committed_front w t ≡ []) ⊎ IsCommittedFront w (committed_front w t)
      by (inl e) = inl (ap (λ (n : ℕ). take n (w.book t)) e)
      by (inr e) = inr (record { term = t; index = greatest (is_committed w t) (length (w.book t)); committed = test_true w t (greatest (is_committed w t) (length (w.book t))) e; is = refl })

  front_covers : (t m : ℕ) → Committed w t m → m ≤ length (committed_front w t)
  front_covers t m c =
      omega (
        arith,
        greatest_covers (is_committed w t) (length (w.book t)) m c.within (true_test w t m c),
        length-take-le (greatest (is_committed w t) (length (w.book t))) (w.book t) (greatest_within (is_committed w t) (length (w.book t))),
      )

  best_longer : (xs ys : List Entry) (top : ℕ) → (xs ≡ []) ⊎ IsCommittedFront w xs → ((m : ℕ) → Committed w (suc top) m → m ≤ length xs) → IsBest ys top → (b : Bool) → nat_le (length xs) (length ys) ≡ b
      → IsBest (if b then ys else xs) (suc top)
  best_longer xs ys top is covers best true e =
      record { is_one = best.is_one; covers = λ t m l c. by t m c (same_or_not t (suc top)) l }
    where
      by : (t m : ℕ) → Committed w t m → (t ≡ suc top) ⊎ ((t == suc top) ≡ false) → t ≤ suc top → m ≤ length ys
      by t m c (inl f) l = omega (arith, covers m (subst (λ (x : ℕ). Committed w x m) f c), leb-true (length xs) (length ys) e)
      by t m c (inr f) l = let low : t ≤ top = grind (arith, nat_tests, f, l) in best.covers t m low c
  best_longer xs ys top is covers best false e =
      record { is_one = is; covers = λ t m l c. by t m c (same_or_not t (suc top)) l }
    where
      by : (t m : ℕ) → Committed w t m → (t ≡ suc top) ⊎ ((t == suc top) ≡ false) → t ≤ suc top → m ≤ length xs
      by t m c (inl f) l = covers m (subst (λ (x : ℕ). Committed w x m) f c)
      by t m c (inr f) l = let low : t ≤ top = grind (arith, nat_tests, f, l) in omega (arith, best.covers t m low c, leb-false (length xs) (length ys) e)

  best : (top : ℕ) → IsBest (agreed_up_to w top) top
  best zero =
      record { is_one = front_is 0; covers = λ t m l c. let e : t ≡ 0 = omega (arith, l) in front_covers 0 m (subst (λ (x : ℕ). Committed w x m) e c) }
  best (suc top) = best_longer (committed_front w (suc top)) (agreed_up_to w top) top (front_is (suc top)) (front_covers (suc top)) (best top) (nat_le (length (committed_front w (suc top))) (length (agreed_up_to w top))) refl

  -- a term with something committed is at most the greatest of the members' terms
  term_within : (t m : ℕ) → Committed w t m → t ≤ highest w.size w.term
  term_within t m c =
      let wins = won_by w k t (omega (arith, c.here, c.within)) in
      omega (arith, k.winners.winners_are_not_behind t wins.0 wins.1, highest_covers w.size w.term wins.0 (k.winners.winners_are_members t wins.0 wins.1))

  has_front : (log : List Entry) (t m : ℕ) → Committed w t m → m ≤ length log → (log ≡ []) ⊎ IsCommittedFront w log → Share m log (w.book t)
  has_front log t m c h (inl e) = absurd (omega (arith, c.here, h, ap (length {A = Entry}) e))
  has_front log t m c h (inr f) =
      let long : m ≤ f.index = omega (arith, h, ap (length {A = Entry}) f.is, length-take-le f.index (w.book f.term) f.committed.within) in
      let agree = fronts_agree t m f.term f.index c f.committed long in
      subst (λ (xs : List Entry). Share m xs (w.book t)) (sym f.is) (share-trans m (take f.index (w.book f.term)) (w.book f.term) (w.book t) (share_take m f.index (w.book f.term) long agree.here) agree)

  pub agreed_is : IsAgreed w (agreed w)
  unfolding agreed
  agreed_is =
      let b = best (highest w.size w.term) in
      record {
        has_all = λ t m c. has_front (agreed_up_to w (highest w.size w.term)) t m c (b.covers t m (term_within t m c) c) b.is_one;
        is_one = b.is_one;
      }

  -- what was committed at an index is there in the agreed list
  pub has_at : (index : ℕ) (e : Entry) → WasCommitted w.size w.winner w.book w.acks index e → HasAt (agreed w) index e
  has_at index e h =
      let s = agreed_is.has_all h.term h.end h.committed in
      record { first = h.first; within = omega (arith, h.low, s.here); is = entry_shared h.end index (agreed w) (w.book h.term) s h.low ∙ h.same }

  pub none_twice : HasNoneTwice (agreed w)
  none_twice = by (agreed w) agreed_is.is_one
    where
      twice : (log : List Entry) (t m : ℕ) → log ≡ take m (w.book t) → m ≤ length (w.book t) → HasNoneTwice log
      twice log t m e l zero n i_first i_within n_first n_within p q same = absurd (omega (arith, i_first))
      twice log t m e l (suc i) zero i_first i_within n_first n_within p q same = absurd (omega (arith, n_first))
      twice log t m e l (suc i) (suc n) i_first i_within n_first n_within p q same = order (same_or_not i n)
        where
          long : length log ≡ m
          long = ap (length {A = Entry}) e ∙ length-take-le m (w.book t) l

          shares : Share m log (w.book t)
          shares = subst (λ (xs : List Entry). Share m xs (w.book t)) (sym e) (share_take m m (w.book t) (omega arith) l)

          at : (j : ℕ) → j < length log → entry_at log (suc j) ≡ entry_at (w.book t) (suc j)
          at j h = entry_shared m (suc j) log (w.book t) shares (omega (arith, h, long))

          asks : (j : ℕ) → j < length log → is_request (entry_at log (suc j)).kind ≡ true → is_request (entry_at (w.book t) (suc j)).kind ≡ true
          asks j h p = sym (ap (λ (x : Entry). is_request x.kind) (at j h)) ∙ p

          named : (entry_at (w.book t) (suc i)).rid ≡ (entry_at (w.book t) (suc n)).rid
          named = sym (ap (λ (x : Entry). x.rid) (at i i_within)) ∙ (same ∙ ap (λ (x : Entry). x.rid) (at n n_within))

          order : (i ≡ n) ⊎ ((i == n) ≡ false) → suc i ≡ suc n
          order (inl f) = ap suc f
          order (inr f) = apart (cases_le i n)
            where
              apart : (i ≤ n) ⊎ (n < i) → suc i ≡ suc n
              apart (inl h) =
                  let low : i < n = grind (arith, nat_tests, f, h) in
                  absurd ((k.logs.logs_are_formed.of_book t).distinct i n low (omega (arith, n_within, long, l)) (asks i i_within p) (asks n n_within q) named)
              apart (inr h) =
                  absurd ((k.logs.logs_are_formed.of_book t).distinct n i h (omega (arith, i_within, long, l)) (asks n n_within q) (asks i i_within p) (sym named))

      by : (log : List Entry) → (log ≡ []) ⊎ IsCommittedFront w log → HasNoneTwice log
      by log (inl e) = λ i n i_first i_within n_first n_within p q same. absurd (omega (arith, i_first, i_within, ap (length {A = Entry}) e))
      by log (inr f) = twice log f.term f.index f.is f.committed.within

-- the agreed list only grows
pub agreed_grows : (w : ProtocolState) (r : Rule) → Kept w → Allowed w r → Share (length (agreed w)) (agreed w) (agreed (after w r))
agreed_grows w r k a = by (agreed w) (agreed_is w k).is_one
  where
    by : (log : List Entry) → (log ≡ []) ⊎ IsCommittedFront w log → Share (length log) log (agreed (after w r))
    by log (inl e) = subst (λ (xs : List Entry). Share (length xs) xs (agreed (after w r))) (sym e) (share_none [] (agreed (after w r)))
    by log (inr f) =
        let still : Committed (after w r) f.term f.index =
        subst (λ (n : ℕ). IsCommittedIn n (after w r).winner (after w r).book (after w r).acks f.term f.index) (sym (leaves w r).size) (committed_grows w k r a f.term f.index f.committed) in
        let has = (agreed_is (after w r) (steps_keep w r k a)).has_all f.term f.index still in
        let front = share_take f.index f.index (w.book f.term) (omega arith) f.committed.within in
        let grown = share_grown f.index (take f.index (w.book f.term)) (w.book f.term) ((after w r).book f.term) front ((grows w k r a).books f.term) in
        let long = length-take-le f.index (w.book f.term) f.committed.within in
        subst (λ (xs : List Entry). Share (length xs) xs (agreed (after w r))) (sym f.is)
        (subst (λ (n : ℕ). Share n (take f.index (w.book f.term)) (agreed (after w r))) (sym long)
        (share-trans f.index (take f.index (w.book f.term)) ((after w r).book f.term) (agreed (after w r)) grown (share-sym f.index (agreed (after w r)) ((after w r).book f.term) has)))
