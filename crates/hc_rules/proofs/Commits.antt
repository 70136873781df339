-- Commitments: what is held to be committed is, and stays so.
use Rattle.std.proofs.Common.{◌≡◌, ℕ, zero, suc, ◌+◌, ◌<◌, ◌≤◌, ◌⊎◌, inl, inr, max, Bool, true, false, ◌==◌, ◌&&◌, ◌||◌, nat_le, if◌then◌else◌, List, [], ◌∷◌, ◌++◌, length, take, drop, Some, refl, sym, ap, subst, ◌∙◌, arith}
use Rattle.std.proofs.lemmas.Bool.{eqb-true, true≢false}
use Rattle.r2_base.specs.declared.entry.Entry.{Entry}
use Rattle.r2_base.specs.Entry.{blank_entry}
use Rattle.hc_rules.specs.Log.{In, Share, entry_at, term_at}
use Rattle.hc_rules.specs.Message.{Order, Passed, Report}
use Rattle.hc_rules.specs.Rules.{Rule, Rise, Stand, Win, OrderRequest, SendOrder, Confirm, Take, Acknowledge, CommitByCount, CommitByOrder, CommitByAggregate, Aggregate, Apply, Yield, NoteReport, NoteOwnReport, NoteAck, Follow, NoteOrder, Collect, Forget, Crash, after, ack_of, next_passed, entry_of, order_of, taken}
use Rattle.hc_rules.specs.Conditions.{Allowed}
use Rattle.hc_rules.specs.Protocol.{ProtocolState, Leader, Committed, IsCommittedIn, acked, backs, put, told}
use Rattle.hc_rules.specs.Kept.{Kept}
use Rattle.std.proofs.lemmas.Bool.{leb-true}
use Rattle.std.proofs.lemmas.Bool.Decides.{nat_tests}
use Rattle.hc_rules.specs.Conditions.{Conflicts, MayAggregate, MayCommit}
use Rattle.hc_rules.specs.Kept.{IsCommitted, CommitsAreCommitted, OrdersTellCommitted, AggregatesAreCommitted, WasCommitted, PassedWasCommitted, AppliedIsCommitted, AppliedWasPassed, ReachedWasAcknowledged, HasApplied, AcksTellApplied, WasTold, IsItsOwn, WasLearnt, ReportsWereLearnt, AggregatorWasTold, AggregatorFollowsAnOrder}
use Rattle.hc_rules.proofs.Acks.{in_acked, backs_cases, backs_from, term_shared}
use Rattle.hc_rules.proofs.Grows.{grows}
use Rattle.hc_rules.proofs.LaterLeaders.{cases_le}
use Rattle.hc_rules.proofs.Logs.{share_grown}
use Rattle.hc_rules.proofs.Majorities.{majority_grows, some_member}
use Rattle.hc_rules.proofs.Puts.{split, self, same_or_not, in_more, acked_more, told_more}
use Rattle.hc_rules.proofs.Shares.{share_before, share_self, share_less, share_take, share-sym, share-trans, entry_same}
use Rattle.hc_rules.proofs.Winners.{leader_book}

-- the entry at an index that two lists share
pub entry_shared : (n index : ℕ) (xs ys : List Entry) → Share n xs ys → index ≤ n → entry_at xs index ≡ entry_at ys index
entry_shared n zero xs ys s h = refl
entry_shared n (suc l) xs ys s h = entry_same n l xs ys h s

-- the end of an Order is at most the greatest
pub in_told : (o : Order) (orders : List Order) → In o orders → o.previous + length o.entries ≤ told orders o.term o.leader
in_told o [] h = absurd h
in_told o (x ∷ orders) (inl e) =
    subst (λ (y : Order). o.previous + length o.entries ≤ told (y ∷ orders) o.term o.leader) e (rw (self o.term) (rw (self o.leader) (omega arith)))
in_told o (x ∷ orders) (inr h) = omega (arith, in_told o orders h, told_more x orders o.term o.leader)

-- what holds of each Order's end holds of the greatest
told_by : (P : ℕ → Type 0) (t v : ℕ) (orders : List Order) → P 0 → ((o : Order) → In o orders → t ≡ o.term → v ≡ o.leader → P (o.previous + length o.entries)) → P (told orders t v)
told_by P t v [] base each = base
told_by P t v (o ∷ orders) base each = by (t == o.term) (v == o.leader) refl refl (told_by P t v orders base (λ x h. each x (inr h)))
  where
    larger : (m n : ℕ) → P m → P n → P (max m n)
    larger m n p q = by_order (cases_le m n)
      where
        by_order : (m ≤ n) ⊎ (n < m) → P (max m n)
        by_order (inl h) = let e : n ≡ max m n = omega (arith, h) in subst P e q
        by_order (inr h) = let e : m ≡ max m n = omega (arith, h) in subst P e p

    by : (b c : Bool) → (t == o.term) ≡ b → (v == o.leader) ≡ c → P (told orders t v) → P (if b && c then max (o.previous + length o.entries) (told orders t v) else told orders t v)
    by true true e f p = larger (o.previous + length o.entries) (told orders t v) (each o (inl refl) (eqb-true t o.term e) (eqb-true v o.leader f)) p
    by true false e f p = p
    by false c e f p = p

module _ (w : ProtocolState) (k : Kept w) where
  backs_grow : (r : Rule) → Allowed w r → (t m v : ℕ) → backs w.winner w.acks t m v ≡ true → backs (after w r).winner (after w r).acks t m v ≡ true
  backs_grow r a t m v h = backs_from (after w r).winner (after w r).acks t m v (by (backs_cases w.winner w.acks t m v h))
    where
      by : (w.winner t ≡ Some v) ⊎ (m ≤ acked w.acks t v) → ((after w r).winner t ≡ Some v) ⊎ (m ≤ acked (after w r).acks t v)
      by (inl e) = inl ((grows w k r a).winners t v e)
      by (inr e) = inr (omega (arith, e, (grows w k r a).acked t v))

  -- what was committed stays committed
  pub committed_grows : (r : Rule) → Allowed w r → (t m : ℕ) → Committed w t m → IsCommittedIn w.size (after w r).winner (after w r).book (after w r).acks t m
  committed_grows r a t m c =
      let grown = (grows w k r a).books t in
      record {
        here = c.here;
        within = omega (arith, c.within, grown.there);
        own = sym (term_shared (length (w.book t)) m (w.book t) ((after w r).book t) grown c.within) ∙ c.own;
        backed = majority_grows w.size (backs w.winner w.acks t m) (backs (after w r).winner (after w r).acks t m) (backs_grow r a t m) c.backed;
      }

  -- and so does what a log has of it
  commit_grows : (r : Rule) → Allowed w r → (t s : ℕ) (log log' : List Entry) (c : ℕ) → t ≤ s → ((xs : List Entry) → Share c log xs → Share c log' xs)
      → IsCommitted w.size w.winner w.book w.acks t log c → IsCommitted w.size (after w r).winner (after w r).book (after w r).acks s log' c
  commit_grows r a t s log log' c later keeps h =
      record {
        term = h.term;
        index = h.index;
        committed = committed_grows r a h.term h.index h.committed;
        low = h.low;
        old = omega (arith, h.old, later);
        same = keeps ((after w r).book h.term) (share_grown c log (w.book h.term) ((after w r).book h.term) h.same ((grows w k r a).books h.term));
      }

  same_log : (c : ℕ) (log : List Entry) (xs : List Entry) → Share c log xs → Share c log xs
  same_log c log xs h = h

  committed_max : (t m n : ℕ) (log : List Entry) → (0 < m → IsCommitted w.size w.winner w.book w.acks t log m) → (0 < n → IsCommitted w.size w.winner w.book w.acks t log n)
      → 0 < max m n → IsCommitted w.size w.winner w.book w.acks t log (max m n)
  committed_max t m n log p q h = by (cases_le m n)
    where
      by : (m ≤ n) ⊎ (n < m) → IsCommitted w.size w.winner w.book w.acks t log (max m n)
      by (inl l) = let e : n ≡ max m n = omega (arith, l) in subst (IsCommitted w.size w.winner w.book w.acks t log) e (q (omega (arith, h, l)))
      by (inr l) = let e : m ≡ max m n = omega (arith, l) in subst (IsCommitted w.size w.winner w.book w.acks t log) e (p (omega (arith, h, l)))

  -- an entry of a term's book from its leader's first on is of the term
  own_entry : (t c m : ℕ) → w.winner t ≡ Some c → length (w.base t) < m → m ≤ length (w.book t) → term_at (w.book t) m ≡ t
  own_entry t c zero won low high = absurd (omega (arith, low))
  own_entry t c (suc j) won low high = (k.winners.books_are_of_their_terms t c won).own j (omega (arith, low)) high

  counted : (x m : ℕ) → MayCommit w x m → Committed w (w.term x) m
  counted x m a =
      let led = k.winners.leaders_have_won x a.leads.leads in
      let within : m ≤ length (w.book (w.term x)) = omega (arith, a.within, ap (length {A = Entry}) (leader_book w k x a.leads.leads)) in
      record {
        here = omega (arith, a.own, led.start_is);
        within = within;
        own = own_entry (w.term x) x m led.won (omega (arith, a.own, led.start_is)) within;
        backed = majority_grows w.size (λ p. (p == x) || nat_le m (acked w.acks (w.term x) p)) (backs w.winner w.acks (w.term x) m) (backed led.won) a.backed;
      }
    where
      backed : w.winner (w.term x) ≡ Some x → (p : ℕ) → ((p == x) || nat_le m (acked w.acks (w.term x) p)) ≡ true → backs w.winner w.acks (w.term x) m p ≡ true
      backed won p h = backs_from w.winner w.acks (w.term x) m p (by (p == x) (nat_le m (acked w.acks (w.term x) p)) refl refl h)
        where
          by : (b c : Bool) → (p == x) ≡ b → nat_le m (acked w.acks (w.term x) p) ≡ c → (b || c) ≡ true → (w.winner (w.term x) ≡ Some p) ⊎ (m ≤ acked w.acks (w.term x) p)
          by true c e f g = inl (won ∙ ap Some (sym (eqb-true p x e)))
          by false true e f g = inr (leb-true m (acked w.acks (w.term x) p) f)
          by false false e f g = absurd (true≢false (sym g))

  pub commits_are_committed : (r : Rule) → Allowed w r → CommitsAreCommitted (after w r)
  commits_are_committed (Rise x s) a =
      split x (λ h. commit_grows (Rise x s) a (w.term x) (put w.term x s x) (w.log x) (w.log x) (w.commit x) ((grows w k (Rise x s) a).terms x) (same_log (w.commit x) (w.log x)) (k.commitments.commits_are_committed x h)) (λ u e. rw e (k.commitments.commits_are_committed u))
  commits_are_committed (Stand x) a =
      split x (λ h. commit_grows (Stand x) a (w.term x) (put w.term x (suc (w.term x)) x) (w.log x) (w.log x) (w.commit x) ((grows w k (Stand x) a).terms x) (same_log (w.commit x) (w.log x)) (k.commitments.commits_are_committed x h)) (λ u e. rw e (k.commitments.commits_are_committed u))
  commits_are_committed (Win x) a =
      split
      x
      (rw (self x) (λ h. commit_grows (Win x) a (w.term x) (w.term x) (w.log x) (w.log x ++ blank_entry (w.term x) ∷ []) (w.commit x) (omega arith) (λ xs s. share_before (w.commit x) (w.log x) xs (blank_entry (w.term x) ∷ []) s) (k.commitments.commits_are_committed x h)))
      (λ u e. rw e (λ h. commit_grows (Win x) a (w.term u) (w.term u) (w.log u) (w.log u) (w.commit u) (omega arith) (same_log (w.commit u) (w.log u)) (k.commitments.commits_are_committed u h)))
  commits_are_committed (OrderRequest x q p) a =
      split
      x
      (rw (self x) (λ h. commit_grows (OrderRequest x q p) a (w.term x) (w.term x) (w.log x) (w.log x ++ entry_of (w.term x) q p ∷ []) (w.commit x) (omega arith) (λ xs s. share_before (w.commit x) (w.log x) xs (entry_of (w.term x) q p ∷ []) s) (k.commitments.commits_are_committed x h)))
      (λ u e. rw e (λ h. commit_grows (OrderRequest x q p) a (w.term u) (w.term u) (w.log u) (w.log u) (w.commit u) (omega arith) (same_log (w.commit u) (w.log u)) (k.commitments.commits_are_committed u h)))
  commits_are_committed (Take x o i n) a =
      split
      x
      (rw (self x) (λ h.
      let was = k.commitments.commits_are_committed x h in
      commit_grows (Take x o i n) a (w.term x) (w.term x) (w.log x) (taken (w.log x) o i n) (w.commit x) (omega arith)
      (λ xs s. share_before (w.commit x) (take (o.previous + i) (w.log x)) xs (drop i (take n o.entries))
      (share-trans (w.commit x) (take (o.previous + i) (w.log x)) (w.log x) xs (share_take (w.commit x) (o.previous + i) (w.log x) (low was.same.here a.cut) was.same.here) s))
      was))
      (λ u e. rw e (k.commitments.commits_are_committed u))
    where
      low : w.commit x ≤ length (w.log x) → (length (w.log x) ≡ o.previous + i) ⊎ Conflicts w x o i → w.commit x ≤ o.previous + i
      low h (inl e) = omega (arith, h, e)
      low h (inr c) = c.committed
  commits_are_committed (Acknowledge x m) a = λ v h. commit_grows (Acknowledge x m) a (w.term v) (w.term v) (w.log v) (w.log v) (w.commit v) (omega arith) (same_log (w.commit v) (w.log v)) (k.commitments.commits_are_committed v h)
  commits_are_committed (CommitByCount x m) a =
      split x (rw (self x) (committed_max (w.term x) (w.commit x) m (w.log x) (k.commitments.commits_are_committed x) (λ h. new))) (λ u e. rw e (k.commitments.commits_are_committed u))
    where
      new : IsCommitted w.size w.winner w.book w.acks (w.term x) (w.log x) m
      new =
          record {
            term = w.term x;
            index = m;
            committed = counted x m a;
            low = omega arith;
            old = omega arith;
            same = subst (Share m (w.log x)) (leader_book w k x a.leads.leads) (share_self m (w.log x) a.within);
          }
  commits_are_committed (CommitByOrder x o m) a =
      split x (rw (self x) (committed_max (w.term x) (w.commit x) m (w.log x) (k.commitments.commits_are_committed x) new)) (λ u e. rw e (k.commitments.commits_are_committed u))
    where
      new : 0 < m → IsCommitted w.size w.winner w.book w.acks (w.term x) (w.log x) m
      new h =
          let told = k.commitments.orders_tell_committed o a.sent (omega (arith, h, a.told)) in
          let mine = share_less m (w.matched x) (w.log x) (w.book (w.term x)) a.within (k.acknowledgements.matched_is_the_leaders x) in
          let theirs = share_less m o.commit (w.book o.term) (w.book told.term) a.told told.same in
          record {
            term = told.term;
            index = told.index;
            committed = told.committed;
            low = omega (arith, a.told, told.low);
            old = omega (arith, told.old, a.current);
            same = share-trans m (w.log x) (w.book (w.term x)) (w.book told.term) mine (subst (λ (t : ℕ). Share m (w.book t) (w.book told.term)) a.current theirs);
          }
  commits_are_committed (CommitByAggregate x y m) a =
      split x (rw (self x) (committed_max (w.term x) (w.commit x) m (w.log x) (k.commitments.commits_are_committed x) (λ h. new))) (λ u e. rw e (k.commitments.commits_are_committed u))
    where
      new : IsCommitted w.size w.winner w.book w.acks (w.term x) (w.log x) m
      new =
          record {
            term = y.term;
            index = y.index;
            committed = k.commitments.aggregates_are_committed y a.sent;
            low = a.told;
            old = omega (arith, a.current);
            same = subst (λ (t : ℕ). Share m (w.log x) (w.book t)) (sym a.current) (share_less m (w.matched x) (w.log x) (w.book (w.term x)) (omega (arith, a.matched)) (k.acknowledgements.matched_is_the_leaders x));
          }
  commits_are_committed (Crash x) a = split x (rw (self x) (λ h. absurd (omega (arith, h)))) (λ u e. rw e (k.commitments.commits_are_committed u))
  commits_are_committed r a = k.commitments.commits_are_committed

  orders_grow : (r : Rule) (a : Allowed w r) (o : Order) → In o w.orders → 0 < o.commit → IsCommitted w.size (after w r).winner (after w r).book (after w r).acks o.term ((after w r).book o.term) o.commit
  orders_grow r a o h l =
      commit_grows r a o.term o.term (w.book o.term) ((after w r).book o.term) o.commit (omega arith)
      (λ xs s. share-sym o.commit xs ((after w r).book o.term) (share_grown o.commit xs (w.book o.term) ((after w r).book o.term) (share-sym o.commit (w.book o.term) xs s) ((grows w k r a).books o.term)))
      (k.commitments.orders_tell_committed o h l)

  pub orders_tell_committed : (r : Rule) → Allowed w r → OrdersTellCommitted (after w r)
  orders_tell_committed (Win x) a = orders_grow (Win x) a
  orders_tell_committed (OrderRequest x q p) a = orders_grow (OrderRequest x q p) a
  orders_tell_committed (Acknowledge x m) a = orders_grow (Acknowledge x m) a
  orders_tell_committed (SendOrder x previous count) a =
      in_more
      w.orders
      (λ h. subst (λ (xs : List Entry). IsCommitted w.size w.winner w.book w.acks (w.term x) xs (w.commit x)) (leader_book w k x a.leads.leads) (k.commitments.commits_are_committed x h))
      k.commitments.orders_tell_committed
  orders_tell_committed r a = k.commitments.orders_tell_committed

  -- what a leader of a term sent lies in its book, and it is the winner
  told_below : (t v : ℕ) → told w.orders t v ≤ length (w.book t)
  told_below t v = told_by (λ n. n ≤ length (w.book t)) t v w.orders (omega arith) (λ o h e f. subst (λ (s : ℕ). o.previous + length o.entries ≤ length (w.book s)) (sym e) (k.logs.orders_are_slices o h).within)

  told_wins : (t v : ℕ) → 0 < told w.orders t v → w.winner t ≡ Some v
  told_wins t v = told_by (λ n. 0 < n → w.winner t ≡ Some v) t v w.orders (λ h. absurd (omega (arith, h))) (λ o h e f l. subst (λ (s : ℕ). w.winner s ≡ Some v) (sym e) (subst (λ (u : ℕ). w.winner o.term ≡ Some u) (sym f) (k.logs.orders_are_slices o h).won))

  aggregated : (o : Order) (m : ℕ) → MayAggregate w o m → Committed w o.term m
  aggregated o m a =
      let slice = k.logs.orders_are_slices o a.sent in
      let one = some_member w.size (λ p. nat_le m (told w.orders o.term p) || nat_le m (acked w.acks o.term p)) a.backed in
      let within = below one.member (cases one.member one.first) in
      let here : 0 < m = omega (arith, a.own, slice.start_is) in
      record {
        here = here;
        within = within;
        own = own_entry o.term o.leader m slice.won (omega (arith, a.own, slice.start_is)) within;
        backed = majority_grows w.size (λ p. nat_le m (told w.orders o.term p) || nat_le m (acked w.acks o.term p)) (backs w.winner w.acks o.term m)
            (λ p h. backs_from w.winner w.acks o.term m p (by here p (cases p h))) a.backed;
      }
    where
      cases : (p : ℕ) → (nat_le m (told w.orders o.term p) || nat_le m (acked w.acks o.term p)) ≡ true → (m ≤ told w.orders o.term p) ⊎ (m ≤ acked w.acks o.term p)
      cases p h = test (nat_le m (told w.orders o.term p)) (nat_le m (acked w.acks o.term p)) refl refl h
        where
          test : (b c : Bool) → nat_le m (told w.orders o.term p) ≡ b → nat_le m (acked w.acks o.term p) ≡ c → (b || c) ≡ true → (m ≤ told w.orders o.term p) ⊎ (m ≤ acked w.acks o.term p)
          test true c e f g = inl (leb-true m (told w.orders o.term p) e)
          test false true e f g = inr (leb-true m (acked w.acks o.term p) f)
          test false false e f g = absurd (true≢false (sym g))

      below : (p : ℕ) → (m ≤ told w.orders o.term p) ⊎ (m ≤ acked w.acks o.term p) → m ≤ length (w.book o.term)
      below p (inl h) = omega (arith, h, told_below o.term p)
      below p (inr h) = omega (arith, h, (k.acknowledgements.acknowledged_is_the_leaders o.term p).below)

      by : 0 < m → (p : ℕ) → (m ≤ told w.orders o.term p) ⊎ (m ≤ acked w.acks o.term p) → (w.winner o.term ≡ Some p) ⊎ (m ≤ acked w.acks o.term p)
      by here p (inl h) = inl (told_wins o.term p (omega (arith, here, h)))
      by here p (inr h) = inr h

  pub aggregates_are_committed : (r : Rule) → Allowed w r → AggregatesAreCommitted (after w r)
  aggregates_are_committed (Win x) a = λ y h. committed_grows (Win x) a y.term y.index (k.commitments.aggregates_are_committed y h)
  aggregates_are_committed (OrderRequest x q p) a = λ y h. committed_grows (OrderRequest x q p) a y.term y.index (k.commitments.aggregates_are_committed y h)
  aggregates_are_committed (Acknowledge x m) a = λ y h. committed_grows (Acknowledge x m) a y.term y.index (k.commitments.aggregates_are_committed y h)
  aggregates_are_committed (Aggregate o m) a = in_more w.aggregates (aggregated o m a) k.commitments.aggregates_are_committed
  aggregates_are_committed r a = k.commitments.aggregates_are_committed

  was_grows : (r : Rule) → Allowed w r → (index : ℕ) (e : Entry) → WasCommitted w.size w.winner w.book w.acks index e → WasCommitted w.size (after w r).winner (after w r).book (after w r).acks index e
  was_grows r a index e h =
      record {
        term = h.term;
        end = h.end;
        committed = committed_grows r a h.term h.end h.committed;
        first = h.first;
        low = h.low;
        same = sym (entry_shared (length (w.book h.term)) index (w.book h.term) ((after w r).book h.term) ((grows w k r a).books h.term) (omega (arith, h.low, h.committed.within))) ∙ h.same;
      }

  pub passed_was_committed : (r : Rule) → Allowed w r → PassedWasCommitted (after w r)
  passed_was_committed (Win x) a = λ y h. was_grows (Win x) a y.index y.entry (k.commitments.passed_was_committed y h)
  passed_was_committed (OrderRequest x q p) a = λ y h. was_grows (OrderRequest x q p) a y.index y.entry (k.commitments.passed_was_committed y h)
  passed_was_committed (Acknowledge x m) a = λ y h. was_grows (Acknowledge x m) a y.index y.entry (k.commitments.passed_was_committed y h)
  passed_was_committed (Apply x) a =
      in_more
      w.passed
      (let was = k.commitments.commits_are_committed x (omega (arith, a.due)) in
      record {
        term = was.term;
        end = was.index;
        committed = was.committed;
        first = omega arith;
        low = omega (arith, a.due, was.low);
        same = sym (entry_same (w.commit x) (w.applied x) (w.log x) (w.book was.term) a.due was.same);
      })
      k.commitments.passed_was_committed
  passed_was_committed r a = k.commitments.passed_was_committed

  pub applied_is_committed : (r : Rule) → Allowed w r → AppliedIsCommitted (after w r)
  applied_is_committed (CommitByCount x m) a = split x (rw (self x) (omega (arith, k.commitments.applied_is_committed x))) (λ u e. rw e (k.commitments.applied_is_committed u))
  applied_is_committed (CommitByOrder x o m) a = split x (rw (self x) (omega (arith, k.commitments.applied_is_committed x))) (λ u e. rw e (k.commitments.applied_is_committed u))
  applied_is_committed (CommitByAggregate x y m) a = split x (rw (self x) (omega (arith, k.commitments.applied_is_committed x))) (λ u e. rw e (k.commitments.applied_is_committed u))
  applied_is_committed (Apply x) a = split x (rw (self x) (omega (arith, a.due))) (λ u e. rw e (k.commitments.applied_is_committed u))
  applied_is_committed (Crash x) a = split x (rw (self x) (omega arith)) (λ u e. rw e (k.commitments.applied_is_committed u))
  applied_is_committed r a = k.commitments.applied_is_committed

  -- an entry that was applied is where it was, while a log keeps what is committed
  still_passed : (x : ℕ) (log' : List Entry) → (0 < w.commit x → Share (w.commit x) log' (w.log x)) → (j : ℕ) → j < w.applied x
      → In {A = Passed} (record { member = x; index = suc j; entry = entry_at log' (suc j) }) w.passed
  still_passed x log' keeps j h =
      let low : j < w.commit x = omega (arith, h, k.commitments.applied_is_committed x) in
      let same = entry_same (w.commit x) j log' (w.log x) low (keeps (omega (arith, low))) in
      subst (λ (e : Entry). In {A = Passed} (record { member = x; index = suc j; entry = e }) w.passed) (sym same) (k.commitments.applied_was_passed x j h)

  -- what a member knows to be committed is within its log
  commit_within : (x : ℕ) → 0 < w.commit x → w.commit x ≤ length (w.log x)
  commit_within x h = (k.commitments.commits_are_committed x h).same.here

  pub applied_was_passed : (r : Rule) → Allowed w r → AppliedWasPassed (after w r)
  applied_was_passed (Win x) a =
      split
      x
      (rw (self x) (still_passed x (w.log x ++ blank_entry (w.term x) ∷ []) (λ h. share_before (w.commit x) (w.log x) (w.log x) (blank_entry (w.term x) ∷ []) (share_self (w.commit x) (w.log x) (commit_within x h)))))
      (λ u e. rw e (k.commitments.applied_was_passed u))
  applied_was_passed (OrderRequest x q p) a =
      split
      x
      (rw (self x) (still_passed x (w.log x ++ entry_of (w.term x) q p ∷ []) (λ h. share_before (w.commit x) (w.log x) (w.log x) (entry_of (w.term x) q p ∷ []) (share_self (w.commit x) (w.log x) (commit_within x h)))))
      (λ u e. rw e (k.commitments.applied_was_passed u))
  applied_was_passed (Take x o i n) a =
      split
      x
      (rw (self x) (still_passed x (taken (w.log x) o i n) (λ h.
      share_before (w.commit x) (take (o.previous + i) (w.log x)) (w.log x) (drop i (take n o.entries)) (share_take (w.commit x) (o.previous + i) (w.log x) (low (commit_within x h) a.cut) (commit_within x h)))))
      (λ u e. rw e (k.commitments.applied_was_passed u))
    where
      low : w.commit x ≤ length (w.log x) → (length (w.log x) ≡ o.previous + i) ⊎ Conflicts w x o i → w.commit x ≤ o.previous + i
      low h (inl e) = omega (arith, h, e)
      low h (inr c) = c.committed
  applied_was_passed (Apply x) a = split x (rw (self x) (λ j h. by j (same_or_not j (w.applied x)) h)) (λ u e. rw e (λ j h. inr (k.commitments.applied_was_passed u j h)))
    where
      by : (j : ℕ) → (j ≡ w.applied x) ⊎ ((j == w.applied x) ≡ false) → j < suc (w.applied x)
          → In {A = Passed} (record { member = x; index = suc j; entry = entry_at (w.log x) (suc j) }) (next_passed w x ∷ w.passed)
      by j (inl e) h = inl (ap (λ (n : ℕ). record { member = x; index = suc n; entry = entry_at (w.log x) (suc n) }) e)
      by j (inr e) h = let low : j < w.applied x = grind (arith, nat_tests, e, h) in inr (k.commitments.applied_was_passed x j low)
  applied_was_passed (Crash x) a = split x (rw (self x) (λ j h. absurd (omega (arith, h)))) (λ u e. rw e (k.commitments.applied_was_passed u))
  applied_was_passed r a = k.commitments.applied_was_passed

  pub reached_was_acknowledged : (r : Rule) → Allowed w r → ReachedWasAcknowledged (after w r)
  reached_was_acknowledged (Rise x s) a = split x (rw (self x) (λ p h. cc)) (λ u e. rw e (k.commitments.reached_was_acknowledged u))
  reached_was_acknowledged (Stand x) a = split x (rw (self x) (λ p h. cc)) (λ u e. rw e (k.commitments.reached_was_acknowledged u))
  reached_was_acknowledged (Win x) a = split x (rw (self x) (λ p h. omega arith)) (λ u e. rw e (k.commitments.reached_was_acknowledged u))
  reached_was_acknowledged (Confirm x o n) a = split x (rw (self x) (λ p h. cc)) (λ u e. rw e (k.commitments.reached_was_acknowledged u))
  reached_was_acknowledged (Take x o i n) a = split x (rw (self x) (λ p h. cc)) (λ u e. rw e (k.commitments.reached_was_acknowledged u))
  reached_was_acknowledged (Yield x o) a = split x (rw (self x) (λ p h. cc)) (λ u e. rw e (k.commitments.reached_was_acknowledged u))
  reached_was_acknowledged (Crash x) a = split x (rw (self x) (λ p h. cc)) (λ u e. rw e (k.commitments.reached_was_acknowledged u))
  reached_was_acknowledged (Acknowledge x m) a = λ v p h. omega (arith, k.commitments.reached_was_acknowledged v p h, acked_more (ack_of w x m) w.acks (w.term v) p)
  reached_was_acknowledged (NoteAck x y) a =
      split
      x
      (rw (self x) (split y.member (λ h. rw (self y.member) (omega (arith, k.commitments.reached_was_acknowledged x y.member h, index))) (λ p e. rw e (k.commitments.reached_was_acknowledged x p))))
      (λ u e. rw e (k.commitments.reached_was_acknowledged u))
    where
      index : y.index ≤ acked w.acks (w.term x) y.member
      index = subst (λ (t : ℕ). y.index ≤ acked w.acks t y.member) a.current (in_acked y w.acks a.sent)
  reached_was_acknowledged r a = k.commitments.reached_was_acknowledged

  passed_grows : (r : Rule) → Allowed w r → (v n : ℕ) → HasApplied w.passed v n → HasApplied (after w r).passed v n
  passed_grows r a v n h j l =
      let was = h j l in record { entry = was.entry; done = (grows w k r a).passed (record { member = v; index = suc j; entry = was.entry }) was.done }

  -- a member applied as much as it says
  has_applied : (v : ℕ) → HasApplied w.passed v (w.applied v)
  has_applied v j l = record { entry = entry_at (w.log v) (suc j); done = k.commitments.applied_was_passed v j l }

  pub acks_tell_applied : (r : Rule) → Allowed w r → AcksTellApplied (after w r)
  acks_tell_applied (Acknowledge x m) a = in_more w.acks (has_applied x) k.commitments.acks_tell_applied
  acks_tell_applied (Apply x) a = λ y h. passed_grows (Apply x) a y.member y.applied (k.commitments.acks_tell_applied y h)
  acks_tell_applied r a = k.commitments.acks_tell_applied

  still_learnt : (r : Rule) → Allowed w r → (y : Report) → In y w.reports → WasLearnt ((after w r).winner y.term) (after w r).acks (after w r).passed y
  still_learnt r a y h =
      let was = k.commitments.reports_were_learnt y h in
      record { won = (grows w k r a).winners y.term y.leader was.won; told = by was.told }
    where
      by : WasTold w.acks y ⊎ IsItsOwn w.passed y → WasTold (after w r).acks y ⊎ IsItsOwn (after w r).passed y
      by (inl t) = inl (record { ack = t.ack; sent = (grows w k r a).acks t.ack t.sent; term_is = t.term_is; member_is = t.member_is; applied_is = t.applied_is })
      by (inr o) = inr (record { own = o.own; applied = passed_grows r a y.leader y.index o.applied })

  pub reports_were_learnt : (r : Rule) → Allowed w r → ReportsWereLearnt (after w r)
  reports_were_learnt (Win x) a = still_learnt (Win x) a
  reports_were_learnt (Acknowledge x m) a = still_learnt (Acknowledge x m) a
  reports_were_learnt (Apply x) a = still_learnt (Apply x) a
  reports_were_learnt (NoteReport x y) a =
      in_more
      w.reports
      (record {
        won = (k.winners.leaders_have_won x a.leads.leads).won;
        told = inl (record { ack = y; sent = a.sent; term_is = omega (arith, a.of_term); member_is = refl; applied_is = refl });
      })
      k.commitments.reports_were_learnt
  reports_were_learnt (NoteOwnReport x) a =
      in_more
      w.reports
      (record { won = (k.winners.leaders_have_won x a.leads).won; told = inr (record { own = refl; applied = has_applied x }) })
      k.commitments.reports_were_learnt
  reports_were_learnt r a = k.commitments.reports_were_learnt

  -- what a leader holds to be reached is within its log
  pub reached_within : (v p : ℕ) → w.role v ≡ Leader → w.reached v p ≤ length (w.log v)
  reached_within v p leads =
      omega (arith, k.commitments.reached_was_acknowledged v p leads, (k.acknowledgements.acknowledged_is_the_leaders (w.term v) p).below, ap (length {A = Entry}) (leader_book w k v leads))

  pub aggregator_was_told : (r : Rule) → Allowed w r → AggregatorWasTold (after w r)
  aggregator_was_told (SendOrder x previous count) a = λ p. omega (arith, k.commitments.aggregator_was_told p, told_more (order_of w x previous count) w.orders w.aggregator.term p)
  aggregator_was_told (Acknowledge x m) a = λ p. omega (arith, k.commitments.aggregator_was_told p, acked_more (ack_of w x m) w.acks w.aggregator.term p)
  aggregator_was_told (Follow o) a = λ p. omega arith
  aggregator_was_told (NoteOrder o) a =
      split
      o.leader
      (rw (self o.leader) (omega (arith, k.commitments.aggregator_was_told o.leader, subst (λ (t : ℕ). o.previous + length o.entries ≤ told w.orders t o.leader) a.current (in_told o w.orders a.sent))))
      (λ p e. rw e (k.commitments.aggregator_was_told p))
  aggregator_was_told (Collect y) a =
      split
      y.member
      (rw (self y.member) (omega (arith, k.commitments.aggregator_was_told y.member, subst (λ (t : ℕ). y.index ≤ acked w.acks t y.member) a.current (in_acked y w.acks a.sent))))
      (λ p e. rw e (k.commitments.aggregator_was_told p))
  aggregator_was_told Forget a = λ p. omega arith
  aggregator_was_told r a = k.commitments.aggregator_was_told

  pub aggregator_follows_an_order : (r : Rule) → Allowed w r → AggregatorFollowsAnOrder (after w r)
  aggregator_follows_an_order (SendOrder x previous count) a =
      λ h. let was = k.commitments.aggregator_follows_an_order h in record { order = was.order; sent = inr was.sent; term_is = was.term_is; leader_is = was.leader_is; start_is = was.start_is }
  aggregator_follows_an_order (Follow o) a = λ h. record { order = o; sent = a.sent; term_is = refl; leader_is = refl; start_is = refl }
  aggregator_follows_an_order Forget a = λ h. absurd (omega (arith, h))
  aggregator_follows_an_order r a = k.commitments.aggregator_follows_an_order
