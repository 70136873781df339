-- Orders and acknowledgements: what was acknowledged is kept.
use Rattle.std.proofs.Common.{◌≡◌, ℕ, zero, suc, ◌+◌, ◌<◌, ◌≤◌, ◌⊎◌, inl, inr, max, Bool, true, false, ◌==◌, ◌&&◌, ◌||◌, nat_le, if◌then◌else◌, List, [], ◌∷◌, ◌++◌, length, take, drop, Option, Some, None, is_some, refl, sym, ap, subst, ◌∙◌, arith, length-append}
use Rattle.std.proofs.lemmas.Bool.{eqb-true, true≢false}
use Rattle.std.proofs.lemmas.Option.{same_Some}
use Rattle.r2_base.specs.declared.entry.Entry.{Entry}
use Rattle.r2_base.specs.Entry.{blank_entry}
use Rattle.hc_rules.specs.Log.{In, Share, term_at}
use Rattle.hc_rules.specs.Message.{Order, Ack, Grant}
use Rattle.hc_rules.specs.Rules.{Rule, Rise, Stand, GrantVote, Win, OrderRequest, SendOrder, Confirm, Take, Acknowledge, Crash, after, ack_of, entry_of, grant_of, taken}
use Rattle.hc_rules.specs.Conditions.{Allowed, MayWin}
use Rattle.hc_rules.specs.Protocol.{ProtocolState, acked, backs, is_won_by, put}
use Rattle.hc_rules.specs.Kept.{Kept}
use Rattle.std.proofs.Common.{length-take, length-drop}
use Rattle.std.proofs.lemmas.List.{drop-take}
use Rattle.std.proofs.lemmas.Bool.Decides.{nat_tests}
use Rattle.std.proofs.lemmas.Bool.{leb-true, le-leb, or_left, or_right}
use Rattle.hc_rules.specs.Kept.{IsSlice, OrdersAreSlices, MatchedIsTheLeaders, AckedIsTheBooks, AcknowledgedIsTheLeaders, AcksAreBelow, BasesKeep, AcknowledgedIsKept, GrantedIsKept}
use Rattle.hc_rules.proofs.Grows.{grows, unwon}
use Rattle.hc_rules.proofs.LaterLeaders.{cases_le}
use Rattle.hc_rules.proofs.Logs.{share_grown}
use Rattle.hc_rules.proofs.Puts.{split, self, same_or_not, put_same, put_other, in_more, acked_more}
use Rattle.hc_rules.proofs.Shares.{share_none, share_before, share_self, share_less, share-sym, share-trans, share_take, term_same}
use Rattle.hc_rules.proofs.Taking.{taking, slice_of, fits_book}
use Rattle.hc_rules.proofs.Votes.{Added, with_grant-from}
use Rattle.hc_rules.proofs.Winners.{leader_book}

-- a slice of what two lists share
share_slice : (n p l : ℕ) (xs ys : List Entry) → Share n xs ys → p + l ≤ n → take l (drop p xs) ≡ take l (drop p ys)
share_slice n p l xs ys s h =
    sym (drop-take p l xs) ∙ (ap (drop p) (share_less (p + l) n xs ys h s).same ∙ drop-take p l ys)

-- the term at an index that two lists share
pub term_shared : (n index : ℕ) (xs ys : List Entry) → Share n xs ys → index ≤ n → term_at xs index ≡ term_at ys index
term_shared n zero xs ys s h = refl
term_shared n (suc l) xs ys s h = term_same n l xs ys h s

slice_grows : (winner x : Option ℕ) (base base' book book' : List Entry) (o : Order) → (winner ≡ Some o.leader → x ≡ Some o.leader) → (winner ≡ Some o.leader → base' ≡ base) → Share (length book) book book'
    → IsSlice winner base book o → IsSlice x base' book' o
slice_grows winner x base base' book book' o wins same grown h =
    record {
      won = wins h.won;
      start_is = h.start_is ∙ ap (λ (xs : List Entry). suc (length xs)) (sym (same h.won));
      within = omega (arith, h.within, grown.there);
      previous_is = h.previous_is ∙ term_shared (length book) o.previous book book' grown (omega (arith, h.within));
      entries_are = sym (share_slice (length book) o.previous (length o.entries) book book' grown h.within) ∙ h.entries_are;
    }

-- what is shared with a longer book is shared with the book as far as it goes
share_shrunk : (n : ℕ) (xs ys zs : List Entry) → n ≤ length ys → Share (length ys) ys zs → Share n xs zs → Share n xs ys
share_shrunk n xs ys zs h grown s = share-trans n xs zs ys s (share-sym n ys zs (share_less n (length ys) ys zs h grown))

-- who backs a term's book won the term or acknowledged the index
pub won_is : (o : Option ℕ) (v : ℕ) → is_won_by o v ≡ true → o ≡ Some v
won_is None v e = absurd (true≢false (sym e))
won_is (Some c) v e = ap Some (sym (eqb-true v c e))

pub backs_cases : (winner : ℕ → Option ℕ) (acks : List Ack) (t m v : ℕ) → backs winner acks t m v ≡ true → (winner t ≡ Some v) ⊎ (m ≤ acked acks t v)
backs_cases winner acks t m v e = by (is_won_by (winner t) v) (nat_le m (acked acks t v)) refl refl e
  where
    by : (a b : Bool) → is_won_by (winner t) v ≡ a → nat_le m (acked acks t v) ≡ b → (a || b) ≡ true → (winner t ≡ Some v) ⊎ (m ≤ acked acks t v)
    by true b f g h = inl (won_is (winner t) v f)
    by false true f g h = inr (leb-true m (acked acks t v) g)
    by false false f g h = absurd (true≢false (sym h))

pub backs_from : (winner : ℕ → Option ℕ) (acks : List Ack) (t m v : ℕ) → (winner t ≡ Some v) ⊎ (m ≤ acked acks t v) → backs winner acks t m v ≡ true
backs_from winner acks t m v (inl e) = or_left (is_won_by (winner t) v) (nat_le m (acked acks t v)) (subst (λ (o : Option ℕ). is_won_by o v ≡ true) (sym e) (self v))
backs_from winner acks t m v (inr h) = or_right (is_won_by (winner t) v) (nat_le m (acked acks t v)) (le-leb m (acked acks t v) h)

-- an acknowledgement's index is at most the greatest
pub in_acked : (a : Ack) (acks : List Ack) → In a acks → a.index ≤ acked acks a.term a.member
in_acked a [] h = absurd h
in_acked a (x ∷ acks) (inl e) =
    subst (λ (y : Ack). a.index ≤ acked (y ∷ acks) a.term a.member) e (rw (self a.term) (rw (self a.member) (omega arith)))
in_acked a (x ∷ acks) (inr h) = omega (arith, in_acked a acks h, acked_more x acks a.term a.member)

-- what holds of both an acknowledgement and what was there before
pub acked_by : (P : ℕ → Type 0) (a : Ack) (acks : List Ack) (t v : ℕ) → (t ≡ a.term → v ≡ a.member → P (max a.index (acked acks t v))) → P (acked acks t v) → P (acked (a ∷ acks) t v)
acked_by P a acks t v new old = by (t == a.term) (v == a.member) refl refl
  where
    by : (b c : Bool) → (t == a.term) ≡ b → (v == a.member) ≡ c → P (if b && c then max a.index (acked acks t v) else acked acks t v)
    by true true e f = new (eqb-true t a.term e) (eqb-true v a.member f)
    by true false e f = old
    by false c e f = old

pub share_max : (m n : ℕ) (xs ys : List Entry) → Share m xs ys → Share n xs ys → Share (max m n) xs ys
share_max m n xs ys a b = by (cases_le m n)
  where
    by : (m ≤ n) ⊎ (n < m) → Share (max m n) xs ys
    by (inl h) = let e : n ≡ max m n = omega (arith, h) in subst (λ (k : ℕ). Share k xs ys) e b
    by (inr h) = let e : m ≡ max m n = omega (arith, h) in subst (λ (k : ℕ). Share k xs ys) e a

module _ (w : ProtocolState) (k : Kept w) where
  orders_grow : (r : Rule) → Allowed w r → (o : Order) → In o w.orders → IsSlice ((after w r).winner o.term) ((after w r).base o.term) ((after w r).book o.term) o
  orders_grow r a o h =
      let g = grows w k r a in
      slice_grows (w.winner o.term) ((after w r).winner o.term) (w.base o.term) ((after w r).base o.term) (w.book o.term) ((after w r).book o.term) o
      (g.winners o.term o.leader) (g.bases o.term o.leader) (g.books o.term) (k.logs.orders_are_slices o h)

  pub orders_are_slices : (r : Rule) → Allowed w r → OrdersAreSlices (after w r)
  orders_are_slices (Win x) a = orders_grow (Win x) a
  orders_are_slices (OrderRequest x q p) a = orders_grow (OrderRequest x q p) a
  orders_are_slices (SendOrder x previous count) a =
      in_more
      w.orders
      (let led = k.winners.leaders_have_won x a.leads.leads in
      let mine = leader_book w k x a.leads.leads in
      let short : length (take count (drop previous (w.log x))) ≡ count =
      omega (arith, length-take count (drop previous (w.log x)), length-drop previous (w.log x), a.within) in
      record {
        won = led.won;
        start_is = led.start_is;
        within = omega (arith, short, a.within, ap (length {A = Entry}) mine);
        previous_is = ap (λ (xs : List Entry). term_at xs previous) mine;
        entries_are = ap (λ (n : ℕ). take n (drop previous (w.book (w.term x)))) short ∙ ap (λ (xs : List Entry). take count (drop previous xs)) (sym mine);
      })
      k.logs.orders_are_slices
  orders_are_slices r a = k.logs.orders_are_slices

  matched_grown : (r : Rule) → Allowed w r → (u : ℕ) → Share (w.matched u) (w.log u) ((after w r).book (w.term u))
  matched_grown r a u = share_grown (w.matched u) (w.log u) (w.book (w.term u)) ((after w r).book (w.term u)) (k.acknowledgements.matched_is_the_leaders u) ((grows w k r a).books (w.term u))

  pub matched_is_the_leaders : (r : Rule) → Allowed w r → MatchedIsTheLeaders (after w r)
  matched_is_the_leaders (Rise x s) a = split x (rw (self x) (share_none _ _)) (λ u e. rw e (k.acknowledgements.matched_is_the_leaders u))
  matched_is_the_leaders (Stand x) a = split x (rw (self x) (share_none _ _)) (λ u e. rw e (k.acknowledgements.matched_is_the_leaders u))
  matched_is_the_leaders (Win x) a =
      split
      x
      (rw (self x) (rw (self (w.term x)) (share_self _ (w.log x ++ blank_entry (w.term x) ∷ []) (omega (arith, length-append (w.log x) (blank_entry (w.term x) ∷ []))))))
      (λ u e. rw e (matched_grown (Win x) a u))
  matched_is_the_leaders (OrderRequest x q p) a =
      split
      x
      (subst
      (λ (xs : List Entry). Share (put w.matched x (suc (length (w.log x))) x) (put w.log x (w.log x ++ entry_of (w.term x) q p ∷ []) x) xs)
      (ap (λ (xs : List Entry). xs ++ entry_of (w.term x) q p ∷ []) (leader_book w k x a.leads.leads) ∙ sym (put_same w.book (w.term x) (w.book (w.term x) ++ entry_of (w.term x) q p ∷ [])))
      (rw (self x) (share_self _ (w.log x ++ entry_of (w.term x) q p ∷ []) (omega (arith, length-append (w.log x) (entry_of (w.term x) q p ∷ []))))))
      (λ u e. rw e (matched_grown (OrderRequest x q p) a u))
  matched_is_the_leaders (Confirm x o n) a =
      split
      x
      (rw (self x) (share_max (w.matched x) (o.previous + n) (w.log x) (w.book (w.term x)) (k.acknowledgements.matched_is_the_leaders x) (fits_book w k x o n a.hears.sent a.hears.current a.fits)))
      (λ u e. rw e (k.acknowledgements.matched_is_the_leaders u))
  matched_is_the_leaders (Take x o i n) a =
      let t = taking w k x o i n a in
      let was = k.acknowledgements.matched_is_the_leaders x in
      split
      x
      (rw (self x) (share_max (w.matched x) (o.previous + n) (taken (w.log x) o i n) (w.book (w.term x))
      (t.keeps (w.matched x) (w.book (w.term x)) was (share_self _ (w.book (w.term x)) was.there))
      (subst (λ (xs : List Entry). Share (o.previous + n) xs (w.book (w.term x))) (sym t.is) (share_take (o.previous + n) (o.previous + n) (w.book (w.term x)) (omega arith) t.within))))
      (λ u e. rw e (k.acknowledgements.matched_is_the_leaders u))
  matched_is_the_leaders (Crash x) a = split x (rw (self x) (share_none _ _)) (λ u e. rw e (k.acknowledgements.matched_is_the_leaders u))
  matched_is_the_leaders r a = k.acknowledgements.matched_is_the_leaders

  -- what a member acknowledged in a term that its own passes isn't asked of its log
  passed_by : (t v s : ℕ) (log book : List Entry) → w.term v < s → s ≡ t → Share (acked w.acks t v) log book
  passed_by t v s log book h e = by (acked w.acks t v) refl
    where
      by : (n : ℕ) → acked w.acks t v ≡ n → Share n log book
      by zero f = share_none log book
      by (suc n) f = absurd (omega (arith, (k.acknowledgements.acknowledged_is_the_leaders t v).old (omega (arith, f)), h, e))

  acked_grown : (r : Rule) → Allowed w r → (t v : ℕ) → AckedIsTheBooks t (acked w.acks t v) (w.term v) (w.log v) ((after w r).book t)
  acked_grown r a t v =
      let was = k.acknowledgements.acknowledged_is_the_leaders t v in
      let grown = (grows w k r a).books t in
      record { below = omega (arith, was.below, grown.there); old = was.old; held = λ e. share_grown (acked w.acks t v) (w.log v) (w.book t) ((after w r).book t) (was.held e) grown }

  acked_before : (t v index own : ℕ) (log book : List Entry) (e : Entry) → AckedIsTheBooks t index own log book → AckedIsTheBooks t index own (log ++ e ∷ []) book
  acked_before t v index own log book e h = record { below = h.below; old = h.old; held = λ f. share_before index log book (e ∷ []) (h.held f) }

  pub acknowledged_is_the_leaders : (r : Rule) → Allowed w r → AcknowledgedIsTheLeaders (after w r)
  acknowledged_is_the_leaders (Rise x s) a =
      λ t. split
      x
      (rw (self x) (let was = k.acknowledgements.acknowledged_is_the_leaders t x in record { below = was.below; old = λ h. omega (arith, was.old h, a.higher); held = passed_by t x s (w.log x) (w.book t) a.higher }))
      (λ u e. rw e (k.acknowledgements.acknowledged_is_the_leaders t u))
  acknowledged_is_the_leaders (Stand x) a =
      λ t. split
      x
      (rw (self x) (let was = k.acknowledgements.acknowledged_is_the_leaders t x in record { below = was.below; old = λ h. omega (arith, was.old h); held = passed_by t x (suc (w.term x)) (w.log x) (w.book t) (omega arith) }))
      (λ u e. rw e (k.acknowledgements.acknowledged_is_the_leaders t u))
  acknowledged_is_the_leaders (Win x) a =
      λ t. split
      x
      (rw (self x) (acked_before t x (acked w.acks t x) (w.term x) (w.log x) (put w.book (w.term x) (w.log x ++ blank_entry (w.term x) ∷ []) t) (blank_entry (w.term x)) (acked_grown (Win x) a t x)))
      (λ u e. rw e (acked_grown (Win x) a t u))
  acknowledged_is_the_leaders (OrderRequest x q p) a =
      λ t. split
      x
      (rw (self x) (acked_before t x (acked w.acks t x) (w.term x) (w.log x) (put w.book (w.term x) (w.book (w.term x) ++ entry_of (w.term x) q p ∷ []) t) (entry_of (w.term x) q p) (acked_grown (OrderRequest x q p) a t x)))
      (λ u e. rw e (acked_grown (OrderRequest x q p) a t u))
  acknowledged_is_the_leaders (Take x o i n) a =
      λ t. split
      x
      (rw (self x)
      (let was = k.acknowledgements.acknowledged_is_the_leaders t x in
      record { below = was.below; old = was.old; held = λ e. kept t e (was.held e) }))
      (λ u e. rw e (k.acknowledgements.acknowledged_is_the_leaders t u))
    where
      kept : (t : ℕ) → w.term x ≡ t → Share (acked w.acks t x) (w.log x) (w.book t) → Share (acked w.acks t x) (taken (w.log x) o i n) (w.book t)
      kept t e s =
          (taking w k x o i n a).keeps (acked w.acks t x) (w.book t) s
          (subst (λ (u : ℕ). Share (acked w.acks t x) (w.book u) (w.book t)) (sym e) (share_self _ (w.book t) s.there))
  acknowledged_is_the_leaders (Acknowledge x m) a = λ t v. acked_by (λ n. AckedIsTheBooks t n (w.term v) (w.log v) (w.book t)) (ack_of w x m) w.acks t v (new t v) (k.acknowledgements.acknowledged_is_the_leaders t v)
    where
      new : (t v : ℕ) → t ≡ w.term x → v ≡ x → AckedIsTheBooks t (max m (acked w.acks t v)) (w.term v) (w.log v) (w.book t)
      new t v e f =
          let was = k.acknowledgements.acknowledged_is_the_leaders t v in
          let mine : Share m (w.log v) (w.book t) =
          subst
          (λ (s : ℕ). Share m (w.log v) (w.book s))
          (sym e)
          (subst (λ (u : ℕ). Share m (w.log u) (w.book (w.term x))) (sym f) (share_less m (w.matched x) (w.log x) (w.book (w.term x)) a.within (k.acknowledgements.matched_is_the_leaders x))) in
          let own : w.term v ≡ t = ap w.term f ∙ sym e in
          let both = share_max m (acked w.acks t v) (w.log v) (w.book t) mine (was.held own) in
          record { below = both.there; old = λ h. omega (arith, own); held = λ g. both }
  acknowledged_is_the_leaders r a = k.acknowledgements.acknowledged_is_the_leaders

  pub acks_are_below : (r : Rule) → Allowed w r → AcksAreBelow (after w r)
  acks_are_below (Rise x s) a = λ y h. let was = k.acknowledgements.acks_are_below y h in record { old = omega (arith, was.old, (grows w k (Rise x s) a).terms y.member); below = was.below }
  acks_are_below (Stand x) a = λ y h. let was = k.acknowledgements.acks_are_below y h in record { old = omega (arith, was.old, (grows w k (Stand x) a).terms y.member); below = was.below }
  acks_are_below (Acknowledge x m) a =
      in_more
      w.acks
      (record { old = omega arith; below = in_acked (ack_of w x m) (ack_of w x m ∷ w.acks) (inl refl) })
      (λ y h. let was = k.acknowledgements.acks_are_below y h in record { old = was.old; below = omega (arith, was.below, acked_more (ack_of w x m) w.acks y.term y.member) })
  acks_are_below r a = k.acknowledgements.acks_are_below

  -- the bases that a later state has kept were kept before
  bases_before : (r : Rule) (a : Allowed w r) (t m end : ℕ) → m ≤ length (w.book t) → BasesKeep (after w r) t m end → BasesKeep w t m end
  bases_before r a t m end h b = λ s c after_t before_end won.
      let g = grows w k r a in
      share_shrunk m (w.base s) (w.book t) ((after w r).book t) h (g.books t)
      (subst (λ (xs : List Entry). Share m xs ((after w r).book t)) (g.bases s c won) (b s c after_t before_end (g.winners s c won)))

  -- what a member had of a book it has, if the bases of the later state keep it
  old_kept : (r : Rule) (a : Allowed w r) (t m v end : ℕ) → backs w.winner w.acks t m v ≡ true → m ≤ length (w.book t) → w.term v < end → BasesKeep (after w r) t m end
      → Share m (w.log v) ((after w r).book t)
  old_kept r a t m v end backing h later b =
      share_grown m (w.log v) (w.book t) ((after w r).book t)
      (k.acknowledgements.acknowledged_is_kept t m v backing h (λ s c l e won. bases_before r a t m end h b s c l (omega (arith, e, later)) won))
      ((grows w k r a).books t)

  old_granted : (r : Rule) (a : Allowed w r) (t m u v : ℕ) (g : Grant) → w.granted u v ≡ Some g → g.late ≡ false → t < u → backs w.winner w.acks t m v ≡ true → m ≤ length (w.book t)
      → BasesKeep (after w r) t m u → Share m g.log ((after w r).book t)
  old_granted r a t m u v g given early later backing h b =
      share_grown m g.log (w.book t) ((after w r).book t) (k.acknowledgements.granted_is_kept t m u v g given early later backing h (bases_before r a t m u h b)) ((grows w k r a).books t)

  -- of a term that wasn't won nothing was acknowledged
  nothing_acked : (x : ℕ) → MayWin w x → (m v : ℕ) → m ≤ acked w.acks (w.term x) v → m ≡ 0
  nothing_acked x a m v h =
      let empty = ap (length {A = Entry}) (k.winners.unwon_terms_have_nothing (w.term x) (unwon w k x a)).no_book in
      omega (arith, h, (k.acknowledgements.acknowledged_is_the_leaders (w.term x) v).below, empty)

  none_shared : (m : ℕ) (xs ys : List Entry) → m ≡ 0 → Share m xs ys
  none_shared m xs ys e = subst (λ (n : ℕ). Share n xs ys) (sym e) (share_none xs ys)

  -- a backer's term isn't lower than the term of what it backs
  backer_old : (t m v : ℕ) → backs w.winner w.acks t m v ≡ true → 0 < m → t ≤ w.term v
  backer_old t m v h l = by (backs_cases w.winner w.acks t m v h)
    where
      by : (w.winner t ≡ Some v) ⊎ (m ≤ acked w.acks t v) → t ≤ w.term v
      by (inl e) = k.winners.winners_are_not_behind t v e
      by (inr e) = (k.acknowledgements.acknowledged_is_the_leaders t v).old (omega (arith, l, e))

  pub acknowledged_is_kept : (r : Rule) → Allowed w r → AcknowledgedIsKept (after w r)
  acknowledged_is_kept (Rise x s) a = λ t m v h l b. old_kept (Rise x s) a t m v (suc (put w.term x s v)) h l (omega (arith, (grows w k (Rise x s) a).terms v)) b
  acknowledged_is_kept (Stand x) a = λ t m v h l b. old_kept (Stand x) a t m v (suc (put w.term x (suc (w.term x)) v)) h l (omega (arith, (grows w k (Stand x) a).terms v)) b
  acknowledged_is_kept (Win x) a = λ t m v h l b. by t m v (same_or_not t (w.term x)) h l b
    where
      log' : ℕ → List Entry
      log' = put w.log x (w.log x ++ blank_entry (w.term x) ∷ [])

      book' : ℕ → List Entry
      book' = put w.book (w.term x) (w.log x ++ blank_entry (w.term x) ∷ [])

      winner' : ℕ → Option ℕ
      winner' = put w.winner (w.term x) (Some x)

      longer : (m u : ℕ) (xs : List Entry) → Share m (w.log u) xs → Share m (log' u) xs
      longer m u xs s = split x {G = λ u. Share m (w.log u) xs → Share m (log' u) xs} (λ s. rw (self x) (share_before m (w.log x) xs (blank_entry (w.term x) ∷ []) s)) (λ u e s. rw e s) u s

      own : (m v : ℕ) → m ≤ length (book' (w.term x)) → (winner' (w.term x) ≡ Some v) ⊎ (m ≤ acked w.acks (w.term x) v) → Share m (log' v) (book' (w.term x))
      own m v l (inl e) =
          let same : x ≡ v = same_Some x v (sym (put_same w.winner (w.term x) (Some x)) ∙ e) in
          subst (λ (u : ℕ). Share m (log' u) (book' (w.term x))) same
          (subst (λ (xs : List Entry). Share m xs (book' (w.term x))) (put_same w.book (w.term x) (w.log x ++ blank_entry (w.term x) ∷ []) ∙ sym (put_same w.log x (w.log x ++ blank_entry (w.term x) ∷ []))) (share_self m (book' (w.term x)) l))
      own m v l (inr e) = none_shared m (log' v) (book' (w.term x)) (nothing_acked x a m v e)

      by : (t m v : ℕ) → (t ≡ w.term x) ⊎ ((t == w.term x) ≡ false) → backs winner' w.acks t m v ≡ true → m ≤ length (book' t) → BasesKeep (after w (Win x)) t m (suc (w.term v)) → Share m (log' v) (book' t)
      by t m v (inl e) h l b =
          subst (λ (s : ℕ). Share m (log' v) (book' s)) (sym e)
          (own m v (subst (λ (s : ℕ). m ≤ length (book' s)) e l) (subst (λ (s : ℕ). (winner' s ≡ Some v) ⊎ (m ≤ acked w.acks s v)) e (backs_cases winner' w.acks t m v h)))
      by t m v (inr e) h l b =
          longer m v (book' t) (old_kept (Win x) a t m v (suc (w.term v))
          (backs_from w.winner w.acks t m v (subst (λ (o : Option ℕ). (o ≡ Some v) ⊎ (m ≤ acked w.acks t v)) (put_other w.winner (w.term x) (Some x) t e) (backs_cases winner' w.acks t m v h)))
          (subst (λ (xs : List Entry). m ≤ length xs) (put_other w.book (w.term x) (w.log x ++ blank_entry (w.term x) ∷ []) t e) l)
          (omega arith) b)
  acknowledged_is_kept (OrderRequest x q p) a = λ t m v h l b. by t m v (cases_le m (length (w.book t))) h l b
    where
      log' : ℕ → List Entry
      log' = put w.log x (w.log x ++ entry_of (w.term x) q p ∷ [])

      book' : ℕ → List Entry
      book' = put w.book (w.term x) (w.book (w.term x) ++ entry_of (w.term x) q p ∷ [])

      longer : (m u : ℕ) (xs : List Entry) → Share m (w.log u) xs → Share m (log' u) xs
      longer m u xs s = split x {G = λ u. Share m (w.log u) xs → Share m (log' u) xs} (λ s. rw (self x) (share_before m (w.log x) xs (entry_of (w.term x) q p ∷ []) s)) (λ u e s. rw e s) u s

      led : w.winner (w.term x) ≡ Some x
      led = (k.winners.leaders_have_won x a.leads.leads).won

      same : log' x ≡ book' (w.term x)
      same =
          put_same w.log x (w.log x ++ entry_of (w.term x) q p ∷ [])
          ∙ (ap (λ (xs : List Entry). xs ++ entry_of (w.term x) q p ∷ []) (leader_book w k x a.leads.leads)
          ∙ sym (put_same w.book (w.term x) (w.book (w.term x) ++ entry_of (w.term x) q p ∷ [])))

      new : (t m v : ℕ) → length (w.book t) < m → m ≤ length (book' t) → (t ≡ w.term x) ⊎ ((t == w.term x) ≡ false) → (w.winner t ≡ Some v) ⊎ (m ≤ acked w.acks t v) → Share m (log' v) (book' t)
      new t m v low l e (inr f) = absurd (omega (arith, low, f, (k.acknowledgements.acknowledged_is_the_leaders t v).below))
      new t m v low l (inr e) (inl f) = absurd (omega (arith, low, subst (λ (xs : List Entry). m ≤ length xs) (put_other w.book (w.term x) (w.book (w.term x) ++ entry_of (w.term x) q p ∷ []) t e) l))
      new t m v low l (inl e) (inl f) =
          let mine : x ≡ v = same_Some x v (sym led ∙ subst (λ (s : ℕ). w.winner s ≡ Some v) e f) in
          subst (λ (s : ℕ). Share m (log' v) (book' s)) (sym e)
          (subst (λ (u : ℕ). Share m (log' u) (book' (w.term x))) mine
          (subst (λ (xs : List Entry). Share m xs (book' (w.term x))) (sym same) (share_self m (book' (w.term x)) (subst (λ (s : ℕ). m ≤ length (book' s)) e l))))

      by : (t m v : ℕ) → (m ≤ length (w.book t)) ⊎ (length (w.book t) < m) → backs w.winner w.acks t m v ≡ true → m ≤ length (book' t) → BasesKeep (after w (OrderRequest x q p)) t m (suc (w.term v)) → Share m (log' v) (book' t)
      by t m v (inl f) h l b = longer m v (book' t) (old_kept (OrderRequest x q p) a t m v (suc (w.term v)) h f (omega arith) b)
      by t m v (inr f) h l b = new t m v f l (same_or_not t (w.term x)) (backs_cases w.winner w.acks t m v h)
  acknowledged_is_kept (Take x o i n) a = λ t m. split x (rw (self x) (λ h l b. kept t m (positive_or m) h l b)) (λ u e. rw e (k.acknowledgements.acknowledged_is_kept t m u))
    where
      positive_or : (m : ℕ) → (m ≡ 0) ⊎ (0 < m)
      positive_or zero = inl refl
      positive_or (suc m) = inr (omega arith)

      of_book : (t m : ℕ) → m ≤ length (w.book t) → BasesKeep w t m (suc (w.term x)) → (t ≡ w.term x) ⊎ ((t == w.term x) ≡ false) → t ≤ w.term x → Share m (w.book (w.term x)) (w.book t)
      of_book t m l b (inl e) h = subst (λ (s : ℕ). Share m (w.book s) (w.book t)) e (share_self m (w.book t) l)
      of_book t m l b (inr e) h =
          let won = (slice_of w k x o a.hears.sent a.hears.current).won in
          let base = b (w.term x) o.leader (grind (arith, nat_tests, e, h)) (omega arith) won in
          let begins = (k.winners.books_are_of_their_terms (w.term x) o.leader won).begins in
          share-trans m (w.book (w.term x)) (w.base (w.term x)) (w.book t)
          (share-sym m (w.base (w.term x)) (w.book (w.term x)) (share_less m (length (w.base (w.term x))) (w.base (w.term x)) (w.book (w.term x)) base.here begins))
          base

      kept : (t m : ℕ) → (m ≡ 0) ⊎ (0 < m) → backs w.winner w.acks t m x ≡ true → m ≤ length (w.book t) → BasesKeep w t m (suc (w.term x)) → Share m (taken (w.log x) o i n) (w.book t)
      kept t m (inl e) h l b = none_shared m (taken (w.log x) o i n) (w.book t) e
      kept t m (inr e) h l b =
          (taking w k x o i n a).keeps m (w.book t) (k.acknowledgements.acknowledged_is_kept t m x h l b) (of_book t m l b (same_or_not t (w.term x)) (backer_old t m x h e))
  acknowledged_is_kept (Acknowledge x n) a = λ t m v h l b. by t m v (backs_cases w.winner (ack_of w x n ∷ w.acks) t m v h) l b
    where
      new : (t m v : ℕ) → BasesKeep w t m (suc (w.term v)) → m ≤ length (w.book t) → t ≡ w.term x → v ≡ x → m ≤ max n (acked w.acks t v) → Share m (w.log v) (w.book t)
      new t m v b l e f h = by (cases_le m n)
        where
          by : (m ≤ n) ⊎ (n < m) → Share m (w.log v) (w.book t)
          by (inl g) =
              subst
              (λ (s : ℕ). Share m (w.log v) (w.book s))
              (sym e)
              (subst (λ (u : ℕ). Share m (w.log u) (w.book (w.term x))) (sym f) (share_less m (w.matched x) (w.log x) (w.book (w.term x)) (omega (arith, g, a.within)) (k.acknowledgements.matched_is_the_leaders x)))
          by (inr g) = k.acknowledgements.acknowledged_is_kept t m v (backs_from w.winner w.acks t m v (inr (omega (arith, g, h)))) l b

      by : (t m v : ℕ) → (w.winner t ≡ Some v) ⊎ (m ≤ acked (ack_of w x n ∷ w.acks) t v) → m ≤ length (w.book t) → BasesKeep w t m (suc (w.term v)) → Share m (w.log v) (w.book t)
      by t m v (inl e) l b = k.acknowledgements.acknowledged_is_kept t m v (backs_from w.winner w.acks t m v (inl e)) l b
      by t m v (inr e) l b =
          acked_by (λ i. m ≤ i → Share m (w.log v) (w.book t)) (ack_of w x n) w.acks t v (new t m v b l) (λ g. k.acknowledgements.acknowledged_is_kept t m v (backs_from w.winner w.acks t m v (inr g)) l b) e
  acknowledged_is_kept r a = k.acknowledgements.acknowledged_is_kept

  pub granted_is_kept : (r : Rule) → Allowed w r → GrantedIsKept (after w r)
  granted_is_kept (Stand x) a = λ t m u v g e early later h l b. by t m u v g (with_grant-from w.granted (suc (w.term x)) x (grant_of w (suc (w.term x)) x x) u v g e) early later h l b
    where
      by : (t m u v : ℕ) (g : Grant) → (w.granted u v ≡ Some g) ⊎ Added w.granted (suc (w.term x)) x (grant_of w (suc (w.term x)) x x) u v g → g.late ≡ false → t < u → backs w.winner w.acks t m v ≡ true
          → m ≤ length (w.book t) → BasesKeep w t m u → Share m g.log (w.book t)
      by t m u v g (inl e) early later h l b = k.acknowledgements.granted_is_kept t m u v g e early later h l b
      by t m u v g (inr e) early later h l b =
          let end : u ≡ suc (w.term v) = e.term ∙ ap (λ (y : ℕ). suc (w.term y)) (sym e.voter) in
          let has = k.acknowledgements.acknowledged_is_kept t m v h l (subst (BasesKeep w t m) end b) in
          subst (λ (y : Grant). Share m y.log (w.book t)) (sym e.is) (subst (λ (y : ℕ). Share m (w.log y) (w.book t)) e.voter has)
  granted_is_kept (GrantVote x q) a = λ t m u v g e early later h l b. by t m u v g (with_grant-from w.granted (w.term x) x (grant_of w (w.term x) x q.candidate) u v g e) early later h l b
    where
      by : (t m u v : ℕ) (g : Grant) → (w.granted u v ≡ Some g) ⊎ Added w.granted (w.term x) x (grant_of w (w.term x) x q.candidate) u v g → g.late ≡ false → t < u → backs w.winner w.acks t m v ≡ true
          → m ≤ length (w.book t) → BasesKeep w t m u → Share m g.log (w.book t)
      by t m u v g (inl e) early later h l b = k.acknowledgements.granted_is_kept t m u v g e early later h l b
      by t m u v g (inr e) early later h l b =
          let unwon_yet : is_some (w.winner (w.term x)) ≡ false = sym (ap (λ (y : Grant). y.late) e.is) ∙ early in
          let has = k.acknowledgements.acknowledged_is_kept t m v h l (λ s c after_t before_end won. bases s c after_t before_end won (same_or_not s (w.term x)) unwon_yet) in
          subst (λ (y : Grant). Share m y.log (w.book t)) (sym e.is) (subst (λ (y : ℕ). Share m (w.log y) (w.book t)) e.voter has)
        where
          bases : (s c : ℕ) → t < s → s < suc (w.term v) → w.winner s ≡ Some c → (s ≡ w.term x) ⊎ ((s == w.term x) ≡ false) → is_some (w.winner (w.term x)) ≡ false → Share m (w.base s) (w.book t)
          bases s c after_t before_end won (inl f) none = absurd (true≢false (sym (ap is_some (subst (λ (y : ℕ). w.winner y ≡ Some c) f won)) ∙ none))
          bases s c after_t before_end won (inr f) none =
              let own : w.term v ≡ w.term x = ap w.term e.voter in
              let end : u ≡ w.term x = e.term in
              b s c after_t (grind (arith, nat_tests, f, before_end, own, end)) won
  granted_is_kept (Win x) a = λ t m u v g e early later h l b. by t m u v g e early later (same_or_not t (w.term x)) h l b
    where
      book' : ℕ → List Entry
      book' = put w.book (w.term x) (w.log x ++ blank_entry (w.term x) ∷ [])

      winner' : ℕ → Option ℕ
      winner' = put w.winner (w.term x) (Some x)

      own : (t m u v : ℕ) (g : Grant) → w.granted u v ≡ Some g → t < u → t ≡ w.term x → (winner' (w.term x) ≡ Some v) ⊎ (m ≤ acked w.acks (w.term x) v) → Share m g.log (book' t)
      own t m u v g e later f (inr h) = none_shared m g.log (book' t) (nothing_acked x a m v h)
      own t m u v g e later f (inl h) =
          let same : x ≡ v = same_Some x v (sym (put_same w.winner (w.term x) (Some x)) ∙ h) in
          absurd (omega (arith, k.votes.grants_are_old u v g e, ap w.term same, later, f))

      by : (t m u v : ℕ) (g : Grant) → w.granted u v ≡ Some g → g.late ≡ false → t < u → (t ≡ w.term x) ⊎ ((t == w.term x) ≡ false) → backs winner' w.acks t m v ≡ true → m ≤ length (book' t)
          → BasesKeep (after w (Win x)) t m u → Share m g.log (book' t)
      by t m u v g e early later (inl f) h l b = own t m u v g e later f (subst (λ (s : ℕ). (winner' s ≡ Some v) ⊎ (m ≤ acked w.acks s v)) f (backs_cases winner' w.acks t m v h))
      by t m u v g e early later (inr f) h l b =
          old_granted (Win x) a t m u v g e early later
          (backs_from w.winner w.acks t m v (subst (λ (o : Option ℕ). (o ≡ Some v) ⊎ (m ≤ acked w.acks t v)) (put_other w.winner (w.term x) (Some x) t f) (backs_cases winner' w.acks t m v h)))
          (subst (λ (xs : List Entry). m ≤ length xs) (put_other w.book (w.term x) (w.log x ++ blank_entry (w.term x) ∷ []) t f) l)
          b
  granted_is_kept (OrderRequest x q p) a = λ t m u v g e early later h l b. by t m u v g e early later (cases_le m (length (w.book t))) h l b
    where
      book' : ℕ → List Entry
      book' = put w.book (w.term x) (w.book (w.term x) ++ entry_of (w.term x) q p ∷ [])

      new : (t m u v : ℕ) (g : Grant) → w.granted u v ≡ Some g → t < u → length (w.book t) < m → m ≤ length (book' t) → (t ≡ w.term x) ⊎ ((t == w.term x) ≡ false) → (w.winner t ≡ Some v) ⊎ (m ≤ acked w.acks t v) → Share m g.log (book' t)
      new t m u v g given later low l e (inr f) = absurd (omega (arith, low, f, (k.acknowledgements.acknowledged_is_the_leaders t v).below))
      new t m u v g given later low l (inr e) (inl f) = absurd (omega (arith, low, subst (λ (xs : List Entry). m ≤ length xs) (put_other w.book (w.term x) (w.book (w.term x) ++ entry_of (w.term x) q p ∷ []) t e) l))
      new t m u v g given later low l (inl e) (inl f) =
          let led = (k.winners.leaders_have_won x a.leads.leads).won in
          let mine : x ≡ v = same_Some x v (sym led ∙ subst (λ (s : ℕ). w.winner s ≡ Some v) e f) in
          absurd (omega (arith, k.votes.grants_are_old u v g given, ap w.term mine, later, e))

      by : (t m u v : ℕ) (g : Grant) → w.granted u v ≡ Some g → g.late ≡ false → t < u → (m ≤ length (w.book t)) ⊎ (length (w.book t) < m) → backs w.winner w.acks t m v ≡ true → m ≤ length (book' t)
          → BasesKeep (after w (OrderRequest x q p)) t m u → Share m g.log (book' t)
      by t m u v g e early later (inl f) h l b = old_granted (OrderRequest x q p) a t m u v g e early later h f b
      by t m u v g e early later (inr f) h l b = new t m u v g e later f l (same_or_not t (w.term x)) (backs_cases w.winner w.acks t m v h)
  granted_is_kept (Acknowledge x n) a = λ t m u v g e early later h l b. by t m u v g e early later (backs_cases w.winner (ack_of w x n ∷ w.acks) t m v h) l b
    where
      by : (t m u v : ℕ) (g : Grant) → w.granted u v ≡ Some g → g.late ≡ false → t < u → (w.winner t ≡ Some v) ⊎ (m ≤ acked (ack_of w x n ∷ w.acks) t v) → m ≤ length (w.book t)
          → BasesKeep w t m u → Share m g.log (w.book t)
      by t m u v g given early later (inl e) l b = k.acknowledgements.granted_is_kept t m u v g given early later (backs_from w.winner w.acks t m v (inl e)) l b
      by t m u v g given early later (inr e) l b =
          acked_by (λ i. m ≤ i → Share m g.log (w.book t)) (ack_of w x n) w.acks t v
          (λ f h i. absurd (omega (arith, k.votes.grants_are_old u v g given, ap w.term h, later, f)))
          (λ i. k.acknowledgements.granted_is_kept t m u v g given early later (backs_from w.winner w.acks t m v (inr i)) l b)
          e
  granted_is_kept r a = k.acknowledgements.granted_is_kept
