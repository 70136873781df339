-- Winners, and the books of their terms.
use Rattle.std.proofs.Common.{◌≡◌, ℕ, suc, ◌<◌, ◌≤◌, ◌⊎◌, inl, inr, Bool, true, false, ◌==◌, List, [], ◌∷◌, ◌++◌, length, Option, Some, None, is_some, refl, sym, ap, subst, ◌∙◌, arith, length-append}
use Rattle.std.proofs.lemmas.Bool.{true≢false}
use Rattle.std.proofs.lemmas.Option.{same_Some, none-some}
use Rattle.r2_base.specs.declared.entry.Entry.{Entry}
use Rattle.r2_base.specs.Entry.{blank_entry}
use Rattle.hc_rules.specs.Log.{Share, entry_at, term_at}
use Rattle.hc_rules.specs.Majority.{IsMajority}
use Rattle.hc_rules.specs.Message.{Grant}
use Rattle.hc_rules.specs.Rules.{Rule, Rise, Stand, GrantVote, Win, OrderRequest, Confirm, Take, Yield, Crash, after, entry_of, taken}
use Rattle.hc_rules.specs.Conditions.{Allowed, MayWin}
use Rattle.hc_rules.specs.Protocol.{ProtocolState, Leader, is_early_for, put, voted}
use Rattle.hc_rules.specs.Kept.{Kept}
use Rattle.hc_rules.specs.Kept.{WinnersAreMembers, WonTermsArePositive, WinnersAreNotBehind, WinnersVotedForThemselves, WinnersHadMajorities, WinnersHaveTheirBooks, LeadersHaveWon, UnwonTermsHaveNothing, BooksAreOfTheirTerms, VotedForItself, LedBy, IsBookOf}
use Rattle.std.proofs.lemmas.Bool.Decides.{nat_tests}
use Rattle.hc_rules.proofs.Grows.{grows, unwon, voted_by}
use Rattle.hc_rules.proofs.LaterLeaders.{early_grant}
use Rattle.hc_rules.proofs.Majorities.{majority_grows}
use Rattle.hc_rules.proofs.Puts.{split, self, same_or_not, put_same}
use Rattle.hc_rules.proofs.Shares.{share_behind, share_self, entry_same}
use Rattle.hc_rules.proofs.Taking.{taking_winner}
use Rattle.hc_rules.proofs.Votes.{voted_for_itself_grows}

-- a grant that was early is early for good
pub early_is : (c : ℕ) (o : Option Grant) (g : Grant) → o ≡ Some g → g.candidate ≡ c → g.late ≡ false → is_early_for c o ≡ true
early_is c o g e to early =
    subst (λ (o : Option Grant). is_early_for c o ≡ true) (sym e) (rw early (rw to (rw (self c) refl)))

early_grows : (granted x : ℕ → ℕ → Option Grant) → ((t v : ℕ) (g : Grant) → granted t v ≡ Some g → x t v ≡ Some g) → (t c v : ℕ) → is_early_for c (granted t v) ≡ true → is_early_for c (x t v) ≡ true
early_grows granted x grow t c v h =
    let early = early_grant c (granted t v) h in
    early_is c (x t v) early.grant (grow t v early.grant early.is) early.candidate early.early

-- an entry at the end of a list
pub entry_last : (log : List Entry) (e : Entry) → entry_at (log ++ e ∷ []) (suc (length log)) ≡ e
entry_last [] e = refl
entry_last (x ∷ log) e = entry_last log e

pub entry_front : (log : List Entry) (e : Entry) (k : ℕ) → k < length log → entry_at (log ++ e ∷ []) (suc k) ≡ entry_at log (suc k)
entry_front log e k h = sym (entry_same (length log) k log (log ++ e ∷ []) h (share_behind (length log) log log (e ∷ []) (share_self (length log) log (omega arith))))

-- a base with its blank entry is a book
pub book_begins : (t : ℕ) (base : List Entry) → ((k : ℕ) → k < length base → term_at base (suc k) < t) → IsBookOf t base (base ++ blank_entry t ∷ [])
book_begins t base older =
    record {
      older = older;
      begins = share_behind (length base) base base (blank_entry t ∷ []) (share_self (length base) base (omega arith));
      longer = omega (arith, length-append base (blank_entry t ∷ []));
      blank = entry_last base (blank_entry t);
      own = λ k h l.
          let last : length base ≡ k = omega (arith, h, l, length-append base (blank_entry t ∷ [])) in
          subst (λ (n : ℕ). term_at (base ++ blank_entry t ∷ []) (suc n) ≡ t) last (ap (λ (e : Entry). e.term) (entry_last base (blank_entry t)));
    }

-- and so it is with one more entry of its term
pub book_goes_on : (t : ℕ) (base book : List Entry) (e : Entry) → e.term ≡ t → IsBookOf t base book → IsBookOf t base (book ++ e ∷ [])
book_goes_on t base book e is h =
    record {
      older = h.older;
      begins = share_behind (length base) base book (e ∷ []) h.begins;
      longer = omega (arith, h.longer, length-append book (e ∷ []));
      blank = entry_front book e (length base) h.longer ∙ h.blank;
      own = λ k low high. by k low (same_or_not k (length book)) (omega (arith, high, length-append book (e ∷ [])));
    }
  where
    by : (k : ℕ) → length base ≤ k → (k ≡ length book) ⊎ ((k == length book) ≡ false) → k ≤ length book → term_at (book ++ e ∷ []) (suc k) ≡ t
    by k low (inl f) high = subst (λ (n : ℕ). term_at (book ++ e ∷ []) (suc n) ≡ t) (sym f) (ap (λ (x : Entry). x.term) (entry_last book e) ∙ is)
    by k low (inr f) high = let below : k < length book = grind (arith, nat_tests, f, high) in ap (λ (x : Entry). x.term) (entry_front book e k below) ∙ h.own k low below

module _ (w : ProtocolState) (k : Kept w) where
  pub winners_are_members : (r : Rule) → Allowed w r → WinnersAreMembers (after w r)
  winners_are_members (Win x) a =
      split (w.term x) (λ c h. subst (λ (u : ℕ). u < w.size) (same_Some x c (sym (put_same w.winner (w.term x) (Some x)) ∙ h)) a.competes.acts.member) (λ t e. rw e (k.winners.winners_are_members t))
  winners_are_members r a = k.winners.winners_are_members

  pub won_terms_are_positive : (r : Rule) → Allowed w r → WonTermsArePositive (after w r)
  won_terms_are_positive (Win x) a = split (w.term x) (λ c h. k.votes.candidates_have_terms x a.competes.competes) (λ t e. rw e (k.winners.won_terms_are_positive t))
  won_terms_are_positive r a = k.winners.won_terms_are_positive

  pub winners_are_not_behind : (r : Rule) → Allowed w r → WinnersAreNotBehind (after w r)
  winners_are_not_behind (Rise x s) a = λ t c h. omega (arith, k.winners.winners_are_not_behind t c h, (grows w k (Rise x s) a).terms c)
  winners_are_not_behind (Stand x) a = λ t c h. omega (arith, k.winners.winners_are_not_behind t c h, (grows w k (Stand x) a).terms c)
  winners_are_not_behind (Win x) a =
      split (w.term x) (λ c h. subst (λ (u : ℕ). w.term x ≤ w.term u) (same_Some x c (sym (put_same w.winner (w.term x) (Some x)) ∙ h)) (omega arith)) (λ t e. rw e (k.winners.winners_are_not_behind t))
  winners_are_not_behind r a = k.winners.winners_are_not_behind

  pub winners_voted_for_themselves : (r : Rule) → Allowed w r → WinnersVotedForThemselves (after w r)
  winners_voted_for_themselves (Stand x) a = λ t c h. voted_for_itself_grows w.granted (after w (Stand x)).granted (grows w k (Stand x) a).grants t c (w.base t) (k.winners.winners_voted_for_themselves t c h)
  winners_voted_for_themselves (GrantVote x q) a = λ t c h. voted_for_itself_grows w.granted (after w (GrantVote x q)).granted (grows w k (GrantVote x q) a).grants t c (w.base t) (k.winners.winners_voted_for_themselves t c h)
  winners_voted_for_themselves (Win x) a =
      split
      (w.term x)
      (λ c h.
      subst
      (λ (u : ℕ). VotedForItself w.granted (w.term x) u (put w.base (w.term x) (w.log x) (w.term x)))
      (same_Some x c (sym (put_same w.winner (w.term x) (Some x)) ∙ h))
      (subst (VotedForItself w.granted (w.term x) x) (sym (put_same w.base (w.term x) (w.log x))) (k.votes.candidates_voted_for_themselves x a.competes.competes)))
      (λ t e. rw e (k.winners.winners_voted_for_themselves t))
  winners_voted_for_themselves r a = k.winners.winners_voted_for_themselves

  -- who was counted had voted early
  counted_early : (x : ℕ) → MayWin w x → (v : ℕ) → w.counted x v ≡ true → is_early_for x (w.granted (w.term x) v) ≡ true
  counted_early x a v h = by (w.granted (w.term x) v) refl
    where
      early : (g : Grant) → w.granted (w.term x) v ≡ Some g → (late : Bool) → g.late ≡ late → g.late ≡ false
      early g e true l = absurd (true≢false (sym (k.votes.late_grants_are_of_won_terms (w.term x) v g e l) ∙ ap is_some (unwon w k x a)))
      early g e false l = l

      by : (o : Option Grant) → w.granted (w.term x) v ≡ o → is_early_for x (w.granted (w.term x) v) ≡ true
      by None e = absurd (none-some x (sym (ap (λ (o : Option Grant). voted (λ s u. o) 0 0) e) ∙ k.votes.counted_votes_are_grants x v h))
      by (Some g) e =
          early_is x (w.granted (w.term x) v) g e (same_Some g.candidate x (sym (voted_by w.granted (w.term x) v g e) ∙ k.votes.counted_votes_are_grants x v h)) (early g e g.late refl)

  pub winners_had_majorities : (r : Rule) → Allowed w r → WinnersHadMajorities (after w r)
  winners_had_majorities (Stand x) a = λ t c h. majority_grows w.size (λ v. is_early_for c (w.granted t v)) (λ v. is_early_for c ((after w (Stand x)).granted t v)) (early_grows w.granted (after w (Stand x)).granted (grows w k (Stand x) a).grants t c) (k.winners.winners_had_majorities t c h)
  winners_had_majorities (GrantVote x q) a = λ t c h. majority_grows w.size (λ v. is_early_for c (w.granted t v)) (λ v. is_early_for c ((after w (GrantVote x q)).granted t v)) (early_grows w.granted (after w (GrantVote x q)).granted (grows w k (GrantVote x q) a).grants t c) (k.winners.winners_had_majorities t c h)
  winners_had_majorities (Win x) a =
      split
      (w.term x)
      (λ c h.
      subst
      (λ (u : ℕ). IsMajority w.size (λ v. is_early_for u (w.granted (w.term x) v)))
      (same_Some x c (sym (put_same w.winner (w.term x) (Some x)) ∙ h))
      (majority_grows w.size (w.counted x) (λ v. is_early_for x (w.granted (w.term x) v)) (counted_early x a) a.majority))
      (λ t e. rw e (k.winners.winners_had_majorities t))
  winners_had_majorities r a = k.winners.winners_had_majorities

  -- a term has one winner
  one_winner : (t c d : ℕ) → w.winner t ≡ Some c → w.winner t ≡ Some d → c ≡ d
  one_winner t c d e f = same_Some c d (sym e ∙ f)

  pub winners_have_their_books : (r : Rule) → Allowed w r → WinnersHaveTheirBooks (after w r)
  winners_have_their_books (Rise x s) a =
      λ t. split x (λ h e. absurd (omega (arith, a.higher, k.winners.winners_are_not_behind t x h, sym (put_same w.term x s) ∙ e))) (λ u f. rw f (k.winners.winners_have_their_books t u))
  winners_have_their_books (Stand x) a =
      λ t. split x (λ h e. absurd (omega (arith, k.winners.winners_are_not_behind t x h, sym (put_same w.term x (suc (w.term x))) ∙ e))) (λ u f. rw f (k.winners.winners_have_their_books t u))
  winners_have_their_books (Win x) a =
      split
      (w.term x)
      (λ c h e.
      subst
      (λ (u : ℕ). put w.log x (w.log x ++ blank_entry (w.term x) ∷ []) u ≡ put w.book (w.term x) (w.log x ++ blank_entry (w.term x) ∷ []) (w.term x))
      (same_Some x c (sym (put_same w.winner (w.term x) (Some x)) ∙ h))
      (put_same w.log x (w.log x ++ blank_entry (w.term x) ∷ []) ∙ sym (put_same w.book (w.term x) (w.log x ++ blank_entry (w.term x) ∷ []))))
      (λ t f. rw f (split x (λ h e. absurd (apart (w.term x) t f e)) (λ u g. rw g (k.winners.winners_have_their_books t u))))
    where
      apart : (s t : ℕ) → (t == s) ≡ false → s ≡ t → ⊥
      apart s t f e = true≢false (sym (self s) ∙ subst (λ (y : ℕ). (y == s) ≡ false) (sym e) f)
  winners_have_their_books (OrderRequest x q p) a =
      split
      (w.term x)
      (split x (λ h e. same h) (λ u f h e. absurd (apart u f (one_winner (w.term x) u x h (k.winners.leaders_have_won x a.leads.leads).won))))
      (λ t f. rw f (split x (λ h e. absurd (apart_terms t f e)) (λ u g. rw g (k.winners.winners_have_their_books t u))))
    where
      apart : (u : ℕ) → (u == x) ≡ false → u ≡ x → ⊥
      apart u f e = true≢false (sym (self x) ∙ subst (λ (y : ℕ). (y == x) ≡ false) e f)

      apart_terms : (t : ℕ) → (t == w.term x) ≡ false → w.term x ≡ t → ⊥
      apart_terms t f e = true≢false (sym (self (w.term x)) ∙ subst (λ (y : ℕ). (y == w.term x) ≡ false) (sym e) f)

      same : w.winner (w.term x) ≡ Some x → put w.log x (w.log x ++ entry_of (w.term x) q p ∷ []) x ≡ put w.book (w.term x) (w.book (w.term x) ++ entry_of (w.term x) q p ∷ []) (w.term x)
      same h =
          put_same w.log x (w.log x ++ entry_of (w.term x) q p ∷ [])
          ∙ (ap (λ (xs : List Entry). xs ++ entry_of (w.term x) q p ∷ []) (k.winners.winners_have_their_books (w.term x) x h refl)
          ∙ sym (put_same w.book (w.term x) (w.book (w.term x) ++ entry_of (w.term x) q p ∷ [])))
  winners_have_their_books (Take x o i n) a =
      λ t. split x (λ h e. subst (λ (s : ℕ). put w.log x (taken (w.log x) o i n) x ≡ w.book s) e (put_same w.log x (taken (w.log x) o i n) ∙ taking_winner w k x o i n a (mine t h e))) (λ u f. rw f (k.winners.winners_have_their_books t u))
    where
      mine : (t : ℕ) → w.winner t ≡ Some x → w.term x ≡ t → w.log x ≡ w.book (w.term x)
      mine t h e = k.winners.winners_have_their_books (w.term x) x (subst (λ (s : ℕ). w.winner s ≡ Some x) (sym e) h) refl
  winners_have_their_books r a = k.winners.winners_have_their_books

  -- a leader's log is its term's book
  pub leader_book : (v : ℕ) → w.role v ≡ Leader → w.log v ≡ w.book (w.term v)
  leader_book v h = k.winners.winners_have_their_books (w.term v) v (k.winners.leaders_have_won v h).won refl

  pub leaders_have_won : (r : Rule) → Allowed w r → LeadersHaveWon (after w r)
  leaders_have_won (Rise x s) a = split x (rw (self x) (λ h. cc)) (λ u e. rw e (k.winners.leaders_have_won u))
  leaders_have_won (Stand x) a = split x (rw (self x) (λ h. cc)) (λ u e. rw e (k.winners.leaders_have_won u))
  leaders_have_won (Win x) a =
      split
      x
      (λ h.
      record {
        won = put_same w.winner (w.term x) (Some x);
        start_is = put_same w.start x (suc (length (w.log x))) ∙ ap (λ (xs : List Entry). suc (length xs)) (sym (put_same w.base (w.term x) (w.log x)));
      })
      (λ u e. rw e (λ h. by u e h (same_or_not (w.term u) (w.term x))))
    where
      by : (u : ℕ) → (u == x) ≡ false → w.role u ≡ Leader → (w.term u ≡ w.term x) ⊎ ((w.term u == w.term x) ≡ false)
          → LedBy (put w.winner (w.term x) (Some x) (w.term u)) (put w.base (w.term x) (w.log x) (w.term u)) u (w.start u)
      by u e h (inl f) =
          let theirs = subst (λ (t : ℕ). w.winner t ≡ Some u) f (k.winners.leaders_have_won u h).won in
          absurd (none-some u (sym (unwon w k x a) ∙ theirs))
      by u e h (inr f) = rw f (k.winners.leaders_have_won u h)
  leaders_have_won (Confirm x o n) a = split x (rw (self x) (λ h. cc)) (λ u e. rw e (k.winners.leaders_have_won u))
  leaders_have_won (Take x o i n) a = split x (rw (self x) (λ h. cc)) (λ u e. rw e (k.winners.leaders_have_won u))
  leaders_have_won (Yield x o) a = split x (rw (self x) (λ h. cc)) (λ u e. rw e (k.winners.leaders_have_won u))
  leaders_have_won (Crash x) a = split x (rw (self x) (λ h. cc)) (λ u e. rw e (k.winners.leaders_have_won u))
  leaders_have_won r a = k.winners.leaders_have_won

  pub unwon_terms_have_nothing : (r : Rule) → Allowed w r → UnwonTermsHaveNothing (after w r)
  unwon_terms_have_nothing (Win x) a = split (w.term x) (rw (self (w.term x)) (λ h. cc)) (λ t e. rw e (k.winners.unwon_terms_have_nothing t))
  unwon_terms_have_nothing (OrderRequest x q p) a =
      split (w.term x) (λ h. absurd (none-some x (sym h ∙ (k.winners.leaders_have_won x a.leads.leads).won))) (λ t e. rw e (k.winners.unwon_terms_have_nothing t))
  unwon_terms_have_nothing r a = k.winners.unwon_terms_have_nothing

  -- a candidate that may win has no entry of its term
  pub older_than : (x : ℕ) → MayWin w x → (j : ℕ) → j < length (w.log x) → term_at (w.log x) (suc j) < w.term x
  older_than x a j h = by (same_or_not (term_at (w.log x) (suc j)) (w.term x))
    where
      by : (term_at (w.log x) (suc j) ≡ w.term x) ⊎ ((term_at (w.log x) (suc j) == w.term x) ≡ false) → term_at (w.log x) (suc j) < w.term x
      by (inl e) =
          let matches = subst (λ (t : ℕ). Share (suc j) (w.log x) (w.book t)) e (k.logs.logs_match_books.of_log x j h) in
          let empty = ap (length {A = Entry}) (k.winners.unwon_terms_have_nothing (w.term x) (unwon w k x a)).no_book in
          absurd (omega (arith, matches.there, empty))
      by (inr e) = let old = k.logs.entries_are_old x j h in grind (arith, nat_tests, e, old)

  pub books_are_of_their_terms : (r : Rule) → Allowed w r → BooksAreOfTheirTerms (after w r)
  books_are_of_their_terms (Win x) a =
      split (w.term x) (λ c h. rw (self (w.term x)) (book_begins (w.term x) (w.log x) (older_than x a))) (λ t e. rw e (k.winners.books_are_of_their_terms t))
  books_are_of_their_terms (OrderRequest x q p) a =
      split
      (w.term x)
      (λ c h. rw (self (w.term x)) (book_goes_on (w.term x) (w.base (w.term x)) (w.book (w.term x)) (entry_of (w.term x) q p) refl (k.winners.books_are_of_their_terms (w.term x) c h)))
      (λ t e. rw e (k.winners.books_are_of_their_terms t))
  books_are_of_their_terms r a = k.winners.books_are_of_their_terms
