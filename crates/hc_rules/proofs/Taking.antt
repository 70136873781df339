-- Taking: the log after an Order's entries is a prefix of its term's book, and keeps what both had.
use Rattle.std.proofs.Common.{◌≡◌, ◌≢◌, ℕ, zero, suc, ◌+◌, ◌-◌, ◌<◌, ◌≤◌, ◌⊎◌, inl, inr, List, ◌++◌, length, take, drop, get_or, Option, refl, sym, ap, subst, ◌∙◌, arith}
use Rattle.r2_base.specs.declared.entry.Entry.{Entry}
use Rattle.r2_base.specs.Entry.{blank_entry}
use Rattle.hc_rules.specs.Log.{In, Share, entry_at, term_at}
use Rattle.hc_rules.specs.Message.{Order}
use Rattle.hc_rules.specs.Rules.{taken}
use Rattle.hc_rules.specs.Conditions.{MayTake}
use Rattle.hc_rules.specs.Protocol.{ProtocolState}
use Rattle.hc_rules.specs.Kept.{Kept}
use Rattle.std.proofs.Common.{take-take, take-add, drop-drop, get_or-take, get_or-drop, take_all, length-take-le}
use Rattle.std.proofs.lemmas.List.{drop-take}
use Rattle.hc_rules.specs.Conditions.{Conflicts, Fits}
use Rattle.hc_rules.specs.Kept.{IsSlice, Matches}
use Rattle.hc_rules.proofs.LaterLeaders.{cases_le}
use Rattle.hc_rules.proofs.Shares.{share_none, share_take, share-sym, share-trans, share_self, term_same}

module _ (winner : Option ℕ) (base book : List Entry) (o : Order) (slice : IsSlice winner base book o) where
  -- an Order's entry is the book's
  pub entry_of_slice : (j : ℕ) → j < length o.entries → entry_at o.entries (suc j) ≡ entry_at book (suc (o.previous + j))
  entry_of_slice j h =
      ap (λ (xs : List Entry). get_or xs j (blank_entry 0)) (sym slice.entries_are)
      ∙ (get_or-take (length o.entries) (drop o.previous book) j (blank_entry 0) h ∙ get_or-drop o.previous book j (blank_entry 0))

  -- the entries from i to k, after what comes before them in the book, are the book's prefix
  pub front_of_slice : (i k : ℕ) → i ≤ k → k ≤ length o.entries → take (o.previous + i) book ++ drop i (take k o.entries) ≡ take (o.previous + k) book
  front_of_slice i k h l =
      let some : take k o.entries ≡ take k (drop o.previous book) = ap (take k) (sym slice.entries_are) ∙ take-take k (length o.entries) (drop o.previous book) l in
      let split : i + (k - i) ≡ k = omega arith in
      let part : drop i (take k (drop o.previous book)) ≡ take (k - i) (drop i (drop o.previous book)) =
      ap (λ (n : ℕ). drop i (take n (drop o.previous book))) (sym split) ∙ drop-take i (k - i) (drop o.previous book) in
      let sum : (o.previous + i) + (k - i) ≡ o.previous + k = omega arith in
      ap (λ (xs : List Entry). take (o.previous + i) book ++ xs) (ap (drop i) some ∙ (part ∙ ap (take (k - i)) (drop-drop i o.previous book)))
      ∙ (sym (take-add (o.previous + i) (k - i) book) ∙ ap (λ (n : ℕ). take n book) sum)

module _ (books : ℕ → List Entry) (log book : List Entry) (of_log : Matches books log) (of_book : Matches books book) where
  -- two logs that match the books and have an entry of one term at an index are the same up to it
  pub same_front : (l : ℕ) → l < length log → l < length book → term_at log (suc l) ≡ term_at book (suc l) → Share (suc l) log book
  same_front l h j e =
      share-trans (suc l) log (books (term_at log (suc l))) book
      (of_log l h)
      (share-sym (suc l) book (books (term_at log (suc l))) (subst (λ (t : ℕ). Share (suc l) book (books t)) (sym e) (of_book l j)))

  module _ (winner : Option ℕ) (base : List Entry) (o : Order) (slice : IsSlice winner base book o) (i : ℕ) (fits : Fits log o i) where
    -- where an Order fits, the log is the book up to the entries that are kept
    pub stands : Share (o.previous + i) log book
    stands = by o.previous i refl refl
      where
        by : (p j : ℕ) → o.previous ≡ p → i ≡ j → Share (o.previous + i) log book
        by zero zero e f = subst (λ (n : ℕ). Share n log book) (omega arith) (share_none log book)
        by (suc p) zero e f =
            let sum : suc p ≡ o.previous + i = omega arith in
            let terms : term_at log (suc p) ≡ term_at book (suc p) = subst (λ (n : ℕ). term_at log n ≡ term_at book n) e (fits.previous ∙ slice.previous_is) in
            subst (λ (n : ℕ). Share n log book) sum (same_front p (omega (arith, fits.within)) (omega (arith, slice.within)) terms)
        by p (suc j) e f =
            let sum : suc (o.previous + j) ≡ o.previous + i = omega arith in
            let terms : term_at log (suc (o.previous + j)) ≡ term_at book (suc (o.previous + j)) =
            fits.entries j (omega arith) ∙ ap (λ (x : Entry). x.term) (entry_of_slice winner base book o slice j (omega (arith, fits.count))) in
            subst (λ (n : ℕ). Share n log book) sum (same_front (o.previous + j) (omega (arith, fits.within)) (omega (arith, fits.count, slice.within)) terms)

    -- the new log is a prefix of the book
    pub taken_is : (k : ℕ) → i ≤ k → k ≤ length o.entries → taken log o i k ≡ take (o.previous + k) book
    taken_is k h l =
        ap (λ (xs : List Entry). xs ++ drop i (take k o.entries)) stands.same ∙ front_of_slice winner base book o slice i k h l

    -- it keeps what the old log and the book both had
    pub taken_keeps : (k : ℕ) → i ≤ k → k ≤ length o.entries
        → ((length log ≡ o.previous + i) ⊎ ((i < length o.entries) × (term_at log (suc (o.previous + i)) ≢ term_at o.entries (suc i))))
        → (m : ℕ) (xs : List Entry) → Share m log xs → Share m book xs → Share m (taken log o i k) xs
    taken_keeps k h l cut m xs a b =
        subst
        (λ (ys : List Entry). Share m ys xs)
        (sym (taken_is k h l))
        (share-trans m (take (o.previous + k) book) book xs (share_take m (o.previous + k) book (omega (arith, low cut, h)) b.here) b)
      where
        low : (length log ≡ o.previous + i) ⊎ ((i < length o.entries) × (term_at log (suc (o.previous + i)) ≢ term_at o.entries (suc i))) → m ≤ o.previous + i
        low (inl e) = omega (arith, a.here, e)
        low (inr c) = by (cases_le m (o.previous + i))
          where
            by : (m ≤ o.previous + i) ⊎ (o.previous + i < m) → m ≤ o.previous + i
            by (inl g) = g
            by (inr g) =
                let one = term_same m (o.previous + i) log xs g a in
                let two = term_same m (o.previous + i) book xs g b in
                let three = ap (λ (x : Entry). x.term) (entry_of_slice winner base book o slice i c.0) in
                absurd (c.1 (one ∙ (sym two ∙ sym three)))

-- a member that takes an Order: its new log is a prefix of its term's book, and keeps what both had
pub record Taking (w : ProtocolState) (v : ℕ) (o : Order) (i k : ℕ) : Type 0 where
  pub is : taken (w.log v) o i k ≡ take (o.previous + k) (w.book (w.term v))
  pub within : o.previous + k ≤ length (w.book (w.term v))
  pub old : Share (o.previous + i) (w.log v) (w.book (w.term v))
  pub keeps : (m : ℕ) (xs : List Entry) → Share m (w.log v) xs → Share m (w.book (w.term v)) xs → Share m (taken (w.log v) o i k) xs

module _ (w : ProtocolState) (k : Kept w) where
  -- an Order of a member's term is a slice of the term's book
  pub slice_of : (v : ℕ) (o : Order) → In o w.orders → o.term ≡ w.term v → IsSlice (w.winner (w.term v)) (w.base (w.term v)) (w.book (w.term v)) o
  slice_of v o h e = subst (λ (t : ℕ). IsSlice (w.winner t) (w.base t) (w.book t) o) e (k.logs.orders_are_slices o h)

  pub fits_book : (v : ℕ) (o : Order) (i : ℕ) → In o w.orders → o.term ≡ w.term v → Fits (w.log v) o i → Share (o.previous + i) (w.log v) (w.book (w.term v))
  fits_book v o i h e fits =
      stands w.book (w.log v) (w.book (w.term v)) (k.logs.logs_match_books.of_log v) (k.logs.logs_match_books.of_book (w.term v)) (w.winner (w.term v)) (w.base (w.term v)) o (slice_of v o h e) i fits

  pub taking : (v : ℕ) (o : Order) (i n : ℕ) → MayTake w v o i n → Taking w v o i n
  taking v o i n a =
      let slice = slice_of v o a.hears.sent a.hears.current in
      record {
        is = taken_is w.book (w.log v) (w.book (w.term v)) (k.logs.logs_match_books.of_log v) (k.logs.logs_match_books.of_book (w.term v)) (w.winner (w.term v)) (w.base (w.term v)) o slice i a.fits n a.order a.count;
        within = omega (arith, slice.within, a.count);
        old = fits_book v o i a.hears.sent a.hears.current a.fits;
        keeps = taken_keeps w.book (w.log v) (w.book (w.term v)) (k.logs.logs_match_books.of_log v) (k.logs.logs_match_books.of_book (w.term v)) (w.winner (w.term v)) (w.base (w.term v)) o slice i a.fits n a.order a.count (cut a.cut);
      }
    where
      cut : (length (w.log v) ≡ o.previous + i) ⊎ Conflicts w v o i → (length (w.log v) ≡ o.previous + i) ⊎ ((i < length o.entries) × (term_at (w.log v) (suc (o.previous + i)) ≢ term_at o.entries (suc i)))
      cut (inl e) = inl e
      cut (inr c) = inr (c.told, c.differs)

  -- a winner that takes its own Orders again keeps its log
  pub taking_winner : (v : ℕ) (o : Order) (i n : ℕ) → MayTake w v o i n → w.log v ≡ w.book (w.term v) → taken (w.log v) o i n ≡ w.book (w.term v)
  taking_winner v o i n a e =
      let t = taking v o i n a in
      let mine : Share (length (w.log v)) (w.log v) (w.book (w.term v)) = subst (λ (xs : List Entry). Share (length (w.log v)) (w.log v) xs) e (share_self _ (w.log v) (omega arith)) in
      let whole = t.keeps (length (w.log v)) (w.book (w.term v)) mine (share_self _ (w.book (w.term v)) mine.there) in
      let long : length (take (o.previous + n) (w.book (w.term v))) ≡ o.previous + n = length-take-le (o.previous + n) (w.book (w.term v)) t.within in
      let least : length (w.book (w.term v)) ≤ o.previous + n = omega (arith, whole.here, ap (length {A = Entry}) t.is, long, ap (length {A = Entry}) e) in
      t.is ∙ take_all (o.previous + n) (w.book (w.term v)) least
