-- Bounds: a leader's unreported entries for a member, and to whom a request is given.
use Rattle.std.proofs.Common.{◌≡◌, ℕ, suc, ◌+◌, ◌-◌, ◌<◌, ◌≤◌, ◌⊎◌, inl, inr, Bool, true, false, ◌==◌, ◌&&◌, if◌then◌else◌, List, [], ◌∷◌, ◌++◌, length, drop, refl, sym, ap, subst, ◌∙◌, arith, length-append}
use Rattle.r2_base.specs.declared.entry.Entry.{Entry}
use Rattle.r2_base.specs.Entry.{blank_entry, is_request}
use Rattle.hc_rules.specs.Log.{entry_at, term_at}
use Rattle.hc_rules.specs.Message.{Request, Report}
use Rattle.hc_rules.specs.Rules.{Rule, Rise, Stand, Win, OrderRequest, Confirm, Take, Yield, NoteReport, NoteOwnReport, Crash, after, entry_of}
use Rattle.hc_rules.specs.Conditions.{Allowed, MayWin, MayOrder}
use Rattle.hc_rules.specs.Protocol.{ProtocolState, Leader}
use Rattle.hc_rules.specs.Kept.{Kept}
use Rattle.std.proofs.Common.{count_by, drop-drop, zero-add, ne_eqb}
use Rattle.std.proofs.Math.Seq.{drop-append-le}
use Rattle.std.proofs.lemmas.Bool.{and_left, and_right}
use Rattle.std.proofs.lemmas.List.{drop_all}
use Rattle.std.proofs.lemmas.List.Sums.{sum_by_push, sum_by-cons, sum_by-take-drop}
use Rattle.std.specs.Prelude.{cond}
use Rattle.hc_rules.specs.Replies.{AreGivenIn, IsGiven, LeadersAreBounded, RequestsAreGiven}
use Rattle.hc_rules.specs.Kept.{Matches}
use Rattle.hc_rules.specs.Laws.{AreGiven}
use Rattle.std.proofs.lemmas.Bool.{true≢false}
use Rattle.hc_rules.proofs.Commits.{entry_shared}
use Rattle.hc_rules.specs.Rules.{report_of}
use Rattle.hc_rules.specs.Protocol.{indexes_of, is_to, reported, unreported}
use Rattle.hc_rules.proofs.LaterLeaders.{cases_le}
use Rattle.hc_rules.proofs.Logs.{last_or_before}
use Rattle.hc_rules.proofs.Puts.{larger, put_same, same_or_not, self, split}
use Rattle.hc_rules.proofs.Winners.{entry_front, entry_last, older_than}

module _ (f : Entry → Bool) where
  -- one entry more counts at most one, and none where it doesn't pass
  count_drop_push : (n : ℕ) (log : List Entry) (e : Entry) → count_by f (drop n (log ++ e ∷ [])) ≤ count_by f (drop n log) + cond (f e) 1 0
  count_drop_push n log e = by (cases_le n (length log))
    where
      by : (n ≤ length log) ⊎ (length log < n) → count_by f (drop n (log ++ e ∷ [])) ≤ count_by f (drop n log) + cond (f e) 1 0
      by (inl h) =
          let parts = ap (count_by f) (drop-append-le n log (e ∷ []) h) in
          omega (arith, parts, sum_by_push (λ (x : Entry). cond (f x) 1 0) (drop n log) e)
      by (inr h) =
          let none = ap (count_by f) (drop_all n (log ++ e ∷ []) (omega (arith, h, length-append log (e ∷ [])))) in
          omega (arith, none)

  -- what is left out counts nothing
  count_drop_less : (m n : ℕ) (log : List Entry) → m ≤ n → count_by f (drop n log) ≤ count_by f (drop m log)
  count_drop_less m n log h =
      let e : m + (n - m) ≡ n = omega (arith, h) in
      let parts = sum_by-take-drop (λ (x : Entry). cond (f x) 1 0) (drop m log) (n - m) in
      let same = ap (count_by f) (drop-drop (n - m) m log ∙ ap (λ (k : ℕ). drop k log) e) in
      omega (arith, parts, same)

  count_none : (log : List Entry) → ((j : ℕ) → j < length log → f (entry_at log (suc j)) ≡ false) → count_by f log ≡ 0
  count_none [] h = refl
  count_none (x ∷ log) h =
      sum_by-cons (λ (y : Entry). cond (f y) 1 0) x log ∙ (rw (h 0 (omega arith)) (zero-add (count_by f log)) ∙ count_none log (λ j l. h (suc j) (omega (arith, l))))

  count_drop_none : (n : ℕ) (log : List Entry) → ((j : ℕ) → j < length log → f (entry_at log (suc j)) ≡ false) → count_by f (drop n log) ≡ 0
  count_drop_none n log h = omega (arith, count_drop_less 0 n log (omega arith), count_none log h)

-- there are as many indexes as entries that pass the test
one_index : (b : Bool) (before : ℕ) (rest : List ℕ) → length (if b then suc before ∷ rest else rest) ≡ cond b 1 0 + length rest
one_index true before rest = omega arith
one_index false before rest = omega arith

length_indexes : (f : Entry → Bool) (before : ℕ) (log : List Entry) → length (indexes_of f before log) ≡ count_by f log
length_indexes f before [] = refl
length_indexes f before (x ∷ log) =
    let first = one_index (f x) before (indexes_of f (suc before) log) in
    let parts = sum_by-cons (λ (y : Entry). cond (f y) 1 0) x log in
    omega (arith, first, parts, length_indexes f (suc before) log)

-- how many entries of a leader's own term a member hasn't reported
abbrev unreported_count : ProtocolState → ℕ → ℕ → ℕ
unreported_count w v p = count_by (is_to (w.term v) p) (drop (reported w.reports v (w.term v) p) (w.log v))

count_of : (w : ProtocolState) (v p : ℕ) → length (unreported w v p) ≡ unreported_count w v p
count_of w v p = length_indexes (is_to (w.term v) p) (reported w.reports v (w.term v) p) (drop (reported w.reports v (w.term v) p) (w.log v))

abbrev CountsAreBounded : ProtocolState → Type 0
CountsAreBounded w = (v p : ℕ) → w.role v ≡ Leader → unreported_count w v p ≤ w.bound p

by_count : (w : ProtocolState) → LeadersAreBounded w → CountsAreBounded w
by_count w h v p leads = omega (arith, h v p leads, count_of w v p)

by_list : (w : ProtocolState) → CountsAreBounded w → LeadersAreBounded w
by_list w h v p leads = omega (arith, h v p leads, count_of w v p)

reported_more : (r : Report) (reports : List Report) (v t p : ℕ) → reported reports v t p ≤ reported (r ∷ reports) v t p
reported_more r reports v t p = larger ((v == r.leader) && (t == r.term) && (p == r.member)) r.index (reported reports v t p)

module _ (w : ProtocolState) (k : Kept w) (h : CountsAreBounded w) where
  -- a new leader has no entry of its term that a member is to answer
  new_leader : (x : ℕ) → MayWin w x → (p j : ℕ) → j < length (w.log x ++ blank_entry (w.term x) ∷ []) → is_to (w.term x) p (entry_at (w.log x ++ blank_entry (w.term x) ∷ []) (suc j)) ≡ false
  new_leader x a p j l = by (last_or_before (w.log x) (blank_entry (w.term x)) j l)
    where
      by : (j ≡ length (w.log x)) ⊎ (j < length (w.log x)) → is_to (w.term x) p (entry_at (w.log x ++ blank_entry (w.term x) ∷ []) (suc j)) ≡ false
      by (inl e) =
          subst
          (λ (n : ℕ). is_to (w.term x) p (entry_at (w.log x ++ blank_entry (w.term x) ∷ []) (suc n)) ≡ false)
          (sym e)
          (ap (is_to (w.term x) p) (entry_last (w.log x) (blank_entry (w.term x))))
      by (inr e) =
          let old = older_than w k x a j e in
          let apart : (w.term x == term_at (w.log x) (suc j)) ≡ false = ne_eqb (w.term x) (term_at (w.log x) (suc j)) (λ same. omega (arith, same, old)) in
          ap (is_to (w.term x) p) (entry_front (w.log x) (blank_entry (w.term x)) j e)
          ∙ and_left (is_request (entry_at (w.log x) (suc j)).kind && (w.term x == term_at (w.log x) (suc j))) (p == (entry_at (w.log x) (suc j)).replier)
          (and_right (is_request (entry_at (w.log x) (suc j)).kind) (w.term x == term_at (w.log x) (suc j)) apart)

  ordered : (x : ℕ) (q : Request) (p : ℕ) → MayOrder w x q p → (u : ℕ) → w.role x ≡ Leader
      → count_by (is_to (w.term x) u) (drop (reported w.reports x (w.term x) u) (w.log x ++ entry_of (w.term x) q p ∷ [])) ≤ w.bound u
  ordered x q p a u leads = by (same_or_not u p)
    where
      push : count_by (is_to (w.term x) u) (drop (reported w.reports x (w.term x) u) (w.log x ++ entry_of (w.term x) q p ∷ [])) ≤ unreported_count w x u + cond (is_to (w.term x) u (entry_of (w.term x) q p)) 1 0
      push = count_drop_push (is_to (w.term x) u) (reported w.reports x (w.term x) u) (w.log x) (entry_of (w.term x) q p)

      one : (b : Bool) → cond b 1 0 ≤ 1
      one true = omega arith
      one false = omega arith

      by : (u ≡ p) ⊎ ((u == p) ≡ false) → count_by (is_to (w.term x) u) (drop (reported w.reports x (w.term x) u) (w.log x ++ entry_of (w.term x) q p ∷ [])) ≤ w.bound u
      by (inl e) = omega (arith, push, one (is_to (w.term x) u (entry_of (w.term x) q p)), a.room, count_of w x p, ap (unreported_count w x) e, ap w.bound e)
      by (inr e) =
          let fails : is_to (w.term x) u (entry_of (w.term x) q p) ≡ false = and_right (is_request q.kind && (w.term x == w.term x)) (u == p) e in
          omega (arith, push, ap {B = ℕ} (λ (b : Bool). cond b 1 0) fails, h x u leads)

  counts_are_bounded : (r : Rule) → Allowed w r → CountsAreBounded (after w r)
  counts_are_bounded (Rise x s) a = split x (rw (self x) (λ p l. cc)) (λ u e. rw e (h u))
  counts_are_bounded (Stand x) a = split x (rw (self x) (λ p l. cc)) (λ u e. rw e (h u))
  counts_are_bounded (Win x) a =
      split
      x
      (λ p l. subst (λ (xs : List Entry). count_by (is_to (w.term x) p) (drop (reported w.reports x (w.term x) p) xs) ≤ w.bound p) (sym (put_same w.log x (w.log x ++ blank_entry (w.term x) ∷ [])))
      (omega (arith, count_drop_none (is_to (w.term x) p) (reported w.reports x (w.term x) p) (w.log x ++ blank_entry (w.term x) ∷ []) (new_leader x a p))))
      (λ u e. rw e (h u))
  counts_are_bounded (OrderRequest x q p) a =
      split
      x
      (λ u l. subst (λ (xs : List Entry). count_by (is_to (w.term x) u) (drop (reported w.reports x (w.term x) u) xs) ≤ w.bound u) (sym (put_same w.log x (w.log x ++ entry_of (w.term x) q p ∷ []))) (ordered x q p a u l))
      (λ u e. rw e (h u))
  counts_are_bounded (Confirm x o n) a = split x (rw (self x) (λ p l. cc)) (λ u e. rw e (h u))
  counts_are_bounded (Take x o i n) a = split x (rw (self x) (λ p l. cc)) (λ u e. rw e (h u))
  counts_are_bounded (Yield x o) a = split x (rw (self x) (λ p l. cc)) (λ u e. rw e (h u))
  counts_are_bounded (Crash x) a = split x (rw (self x) (λ p l. cc)) (λ u e. rw e (h u))
  counts_are_bounded (NoteReport x y) a = λ v p l.
      omega (arith, h v p l, count_drop_less (is_to (w.term v) p) (reported w.reports v (w.term v) p) (reported (report_of w x y.member y.applied ∷ w.reports) v (w.term v) p) (w.log v) (reported_more (report_of w x y.member y.applied) w.reports v (w.term v) p))
  counts_are_bounded (NoteOwnReport x) a = λ v p l.
      omega (arith, h v p l, count_drop_less (is_to (w.term v) p) (reported w.reports v (w.term v) p) (reported (report_of w x x (w.applied x) ∷ w.reports) v (w.term v) p) (w.log v) (reported_more (report_of w x x (w.applied x)) w.reports v (w.term v) p))
  counts_are_bounded r a = h

pub leaders_are_bounded : (w : ProtocolState) → Kept w → LeadersAreBounded w → (r : Rule) → Allowed w r → LeadersAreBounded (after w r)
leaders_are_bounded w k h r a = by_list (after w r) (counts_are_bounded w k (by_count w h) r a)

-- To whom requests are given --

module _ (members : ℕ) (bound : ℕ → ℕ) (t : ℕ) (log : List Entry) (e : Entry) (h : AreGivenIn members bound t log)
    (new : e.term ≡ t → is_request e.kind ≡ true → IsGiven members bound e) where
  given_push : AreGivenIn members bound t (log ++ e ∷ [])
  given_push j l own asks = by (last_or_before log e j l)
    where
      by : (j ≡ length log) ⊎ (j < length log) → IsGiven members bound (entry_at (log ++ e ∷ []) (suc j))
      by (inl f) =
          let same : entry_at (log ++ e ∷ []) (suc j) ≡ e = subst (λ (n : ℕ). entry_at (log ++ e ∷ []) (suc n) ≡ e) (sym f) (entry_last log e) in
          subst (IsGiven members bound) (sym same) (new (sym (ap (λ (x : Entry). x.term) same) ∙ own) (sym (ap (λ (x : Entry). is_request x.kind) same) ∙ asks))
      by (inr f) =
          let same = entry_front log e j f in
          subst (IsGiven members bound) (sym same) (h j f (sym (ap (λ (x : Entry). x.term) same) ∙ own) (sym (ap (λ (x : Entry). is_request x.kind) same) ∙ asks))

module _ (w : ProtocolState) (k : Kept w) (h : RequestsAreGiven w) where
  -- the entries of a new leader's log are of earlier terms
  base_given : (x : ℕ) → MayWin w x → AreGivenIn w.size w.bound (w.term x) (w.log x)
  base_given x a j l own asks = let old = older_than w k x a j l in absurd (omega (arith, old, own))

  pub requests_are_given : (r : Rule) → Allowed w r → RequestsAreGiven (after w r)
  requests_are_given (Win x) a =
      split
      (w.term x)
      (subst (AreGivenIn w.size w.bound (w.term x)) (sym (put_same w.book (w.term x) (w.log x ++ blank_entry (w.term x) ∷ [])))
      (given_push w.size w.bound (w.term x) (w.log x) (blank_entry (w.term x)) (base_given x a) (λ own asks. absurd (true≢false (sym asks)))))
      (λ u e. rw e (h u))
  requests_are_given (OrderRequest x q p) a =
      split
      (w.term x)
      (subst (AreGivenIn w.size w.bound (w.term x)) (sym (put_same w.book (w.term x) (w.book (w.term x) ++ entry_of (w.term x) q p ∷ [])))
      (given_push w.size w.bound (w.term x) (w.book (w.term x)) (entry_of (w.term x) q p) (h (w.term x)) (λ own asks. record { member = a.member; answers = omega (arith, a.room) })))
      (λ u e. rw e (h u))
  requests_are_given r a = h

  -- up to each entry of a log it is the book of the entry's term, so its requests are given as that book's
  pub given_by_books : (log : List Entry) → Matches w.book log → AreGiven w.size w.bound log
  given_by_books log matches j l asks =
      let shares = matches j l in
      let same = entry_shared (suc j) (suc j) log (w.book (term_at log (suc j))) shares (omega arith) in
      subst (IsGiven w.size w.bound) (sym same)
      (h (term_at log (suc j)) j (omega (arith, shares.there)) (sym (ap (λ (x : Entry). x.term) same)) (sym (ap (λ (x : Entry). is_request x.kind) same) ∙ asks))
