-- Logs: they match the books and stay well formed.
use Rattle.std.proofs.Common.{◌≡◌, ◌≢◌, ℕ, zero, suc, ◌+◌, ◌<◌, ◌≤◌, ◌⊎◌, inl, inr, true, false, ◌==◌, List, [], ◌∷◌, ◌++◌, length, take, Option, Some, refl, sym, ap, subst, ◌∙◌, arith, length-append}
use Rattle.std.proofs.lemmas.Bool.{true≢false}
use Rattle.r2_base.specs.declared.rid.Rid.{Rid}
use Rattle.r2_base.specs.declared.entry.Entry.{Entry}
use Rattle.r2_base.specs.Entry.{blank_entry, is_request}
use Rattle.hc_rules.specs.Log.{In, Share, entry_at, term_at}
use Rattle.hc_rules.specs.Message.{Request, Grant}
use Rattle.hc_rules.specs.Rules.{Rule, Rise, Stand, GrantVote, Win, OrderRequest, Take, AskBody, GiveBody, Hold, Crash, SendRequest, after, entry_of, grant_of, taken, with_grant}
use Rattle.hc_rules.specs.Conditions.{Allowed}
use Rattle.hc_rules.specs.Protocol.{ProtocolState, put}
use Rattle.hc_rules.specs.Kept.{Kept}
use Rattle.std.proofs.Common.{length-take, get_or-take}
use Rattle.std.proofs.lemmas.Bool.Decides.{nat_tests}
use Rattle.hc_rules.specs.Log.{Lacks, StandsIn}
use Rattle.hc_rules.specs.Kept.{EachLog, Matches, LogsMatchBooks, IsFormed, LogsAreFormed, EntriesAreOld, TableIsDistinct, BodiesAreKnown, IsBookOf}
use Rattle.hc_rules.specs.Requests.{At, IsKnown, IsListed}
use Rattle.hc_rules.proofs.Grows.{grows}
use Rattle.hc_rules.proofs.LaterLeaders.{cases_le}
use Rattle.hc_rules.proofs.Puts.{split, self, same_or_not, put_same}
use Rattle.hc_rules.proofs.Shares.{share_before, share_self, share_less, share-trans, share_take, term_same}
use Rattle.hc_rules.proofs.Taking.{taking, slice_of}
use Rattle.hc_rules.proofs.Votes.{Added, with_grant-from}
use Rattle.hc_rules.proofs.Winners.{leader_book, entry_last, entry_front}

-- what is shared with a book is shared with a longer one
pub share_grown : (n : ℕ) (xs ys zs : List Entry) → Share n xs ys → Share (length ys) ys zs → Share n xs zs
share_grown n xs ys zs a b = share-trans n xs ys zs a (share_less n (length ys) ys zs a.there b)

matches_grown : (book x : ℕ → List Entry) → ((t : ℕ) → Share (length (book t)) (book t) (x t)) → (log : List Entry) → Matches book log → Matches x log
matches_grown book x grow log h = λ k l. share_grown (suc k) log (book (term_at log (suc k))) (x (term_at log (suc k))) (h k l) (grow (term_at log (suc k)))

-- an index of a log with one entry more
pub last_or_before : (log : List Entry) (e : Entry) (k : ℕ) → k < length (log ++ e ∷ []) → (k ≡ length log) ⊎ (k < length log)
last_or_before log e k h = by (same_or_not k (length log)) (omega (arith, h, length-append log (e ∷ [])))
  where
    by : (k ≡ length log) ⊎ ((k == length log) ≡ false) → k ≤ length log → (k ≡ length log) ⊎ (k < length log)
    by (inl f) l = inl f
    by (inr f) l = inr (grind (arith, nat_tests, f, l))

pub term_front : (log : List Entry) (e : Entry) (k : ℕ) → k < length log → term_at (log ++ e ∷ []) (suc k) ≡ term_at log (suc k)
term_front log e k h = ap (λ (x : Entry). x.term) (entry_front log e k h)

matches_push : (book : ℕ → List Entry) (log : List Entry) (e : Entry) → Matches book log → Share (suc (length log)) (log ++ e ∷ []) (book e.term) → Matches book (log ++ e ∷ [])
matches_push book log e h new = λ k l. by k (last_or_before log e k l)
  where
    by : (k : ℕ) → (k ≡ length log) ⊎ (k < length log) → Share (suc k) (log ++ e ∷ []) (book (term_at (log ++ e ∷ []) (suc k)))
    by k (inl f) =
        subst
        (λ (n : ℕ). Share (suc n) (log ++ e ∷ []) (book (term_at (log ++ e ∷ []) (suc n))))
        (sym f)
        (subst (λ (t : ℕ). Share (suc (length log)) (log ++ e ∷ []) (book t)) (sym (ap (λ (x : Entry). x.term) (entry_last log e))) new)
    by k (inr f) =
        subst (λ (t : ℕ). Share (suc k) (log ++ e ∷ []) (book t)) (sym (term_front log e k f)) (share_before (suc k) log (book (term_at log (suc k))) (e ∷ []) (h k f))

-- an index of a log's prefix
within_take : (n k : ℕ) (log : List Entry) → k < length (take n log) → (k < n) × (k < length log)
within_take n k log h = let e = length-take n log in (omega (arith, e, h), omega (arith, e, h))

entry_take : (n k : ℕ) (log : List Entry) → k < n → entry_at (take n log) (suc k) ≡ entry_at log (suc k)
entry_take n k log h = get_or-take n log k (blank_entry 0) h

term_take : (n k : ℕ) (log : List Entry) → k < n → term_at (take n log) (suc k) ≡ term_at log (suc k)
term_take n k log h = ap (λ (x : Entry). x.term) (entry_take n k log h)

matches_take : (book : ℕ → List Entry) (n : ℕ) (log : List Entry) → Matches book log → Matches book (take n log)
matches_take book n log h = λ k l.
    let parts = within_take n k log l in
    subst
    (λ (t : ℕ). Share (suc k) (take n log) (book t))
    (sym (term_take n k log parts.0))
    (share-trans (suc k) (take n log) log (book (term_at log (suc k))) (share_take (suc k) n log parts.0 parts.1) (h k parts.1))

module _ (log base book : ℕ → List Entry) (granted : ℕ → ℕ → Option Grant) where
  pub each_weaken : (P Q : List Entry → Type 0) → ((xs : List Entry) → P xs → Q xs) → EachLog P log base book granted → EachLog Q log base book granted
  each_weaken P Q f h =
      record { of_log = λ v. f (log v) (h.of_log v); of_base = λ t. f (base t) (h.of_base t); of_book = λ t. f (book t) (h.of_book t); of_grant = λ t v g e. f g.log (h.of_grant t v g e) }

  each_log : (P : List Entry → Type 0) (x : ℕ) (xs : List Entry) → P xs → EachLog P log base book granted → EachLog P (put log x xs) base book granted
  each_log P x xs new h = record { of_log = split x (subst P (sym (put_same log x xs)) new) (λ u e. rw e (h.of_log u)); of_base = h.of_base; of_book = h.of_book; of_grant = h.of_grant }

  each_base : (P : List Entry → Type 0) (x : ℕ) (xs : List Entry) → P xs → EachLog P log base book granted → EachLog P log (put base x xs) book granted
  each_base P x xs new h = record { of_log = h.of_log; of_base = split x (subst P (sym (put_same base x xs)) new) (λ u e. rw e (h.of_base u)); of_book = h.of_book; of_grant = h.of_grant }

  each_book : (P : List Entry → Type 0) (x : ℕ) (xs : List Entry) → P xs → EachLog P log base book granted → EachLog P log base (put book x xs) granted
  each_book P x xs new h = record { of_log = h.of_log; of_base = h.of_base; of_book = split x (subst P (sym (put_same book x xs)) new) (λ u e. rw e (h.of_book u)); of_grant = h.of_grant }

  each_grant : (P : List Entry → Type 0) (t v : ℕ) (new : Grant) → P new.log → EachLog P log base book granted → EachLog P log base book (with_grant granted t v new)
  each_grant P t v new is h = record { of_log = h.of_log; of_base = h.of_base; of_book = h.of_book; of_grant = λ s u g e. by s u g (with_grant-from granted t v new s u g e) }
    where
      by : (s u : ℕ) (g : Grant) → (granted s u ≡ Some g) ⊎ Added granted t v new s u g → P g.log
      by s u g (inl e) = h.of_grant s u g e
      by s u g (inr e) = subst (λ (y : Grant). P y.log) (sym e.is) is

module _ (w : ProtocolState) (k : Kept w) where
  pub logs_match_books : (r : Rule) → Allowed w r → LogsMatchBooks (after w r)
  logs_match_books (Stand x) a = each_grant w.log w.base w.book w.granted (Matches w.book) (suc (w.term x)) x (grant_of w (suc (w.term x)) x x) (k.logs.logs_match_books.of_log x) k.logs.logs_match_books
  logs_match_books (GrantVote x q) a = each_grant w.log w.base w.book w.granted (Matches w.book) (w.term x) x (grant_of w (w.term x) x q.candidate) (k.logs.logs_match_books.of_log x) k.logs.logs_match_books
  logs_match_books (Win x) a =
      each_log w.log (put w.base (w.term x) (w.log x)) books w.granted (Matches books) x (w.log x ++ blank_entry (w.term x) ∷ []) new
      (each_base w.log w.base books w.granted (Matches books) (w.term x) (w.log x) (grown.of_log x)
      (each_book w.log w.base w.book w.granted (Matches books) (w.term x) (w.log x ++ blank_entry (w.term x) ∷ []) new grown))
    where
      books : ℕ → List Entry
      books = put w.book (w.term x) (w.log x ++ blank_entry (w.term x) ∷ [])

      grown : EachLog (Matches books) w.log w.base w.book w.granted
      grown = each_weaken w.log w.base w.book w.granted (Matches w.book) (Matches books) (matches_grown w.book books (grows w k (Win x) a).books) k.logs.logs_match_books

      new : Matches books (w.log x ++ blank_entry (w.term x) ∷ [])
      new = matches_push books (w.log x) (blank_entry (w.term x)) (grown.of_log x)
          (subst (Share (suc (length (w.log x))) (w.log x ++ blank_entry (w.term x) ∷ [])) (sym (put_same w.book (w.term x) (w.log x ++ blank_entry (w.term x) ∷ []))) (share_self _ _ (omega (arith, length-append (w.log x) (blank_entry (w.term x) ∷ [])))))
  logs_match_books (OrderRequest x q p) a =
      each_log w.log w.base books w.granted (Matches books) x (w.log x ++ entry_of (w.term x) q p ∷ []) (subst (λ (xs : List Entry). Matches books (xs ++ entry_of (w.term x) q p ∷ [])) (sym mine) new)
      (each_book w.log w.base w.book w.granted (Matches books) (w.term x) (w.book (w.term x) ++ entry_of (w.term x) q p ∷ []) new grown)
    where
      books : ℕ → List Entry
      books = put w.book (w.term x) (w.book (w.term x) ++ entry_of (w.term x) q p ∷ [])

      grown : EachLog (Matches books) w.log w.base w.book w.granted
      grown = each_weaken w.log w.base w.book w.granted (Matches w.book) (Matches books) (matches_grown w.book books (grows w k (OrderRequest x q p) a).books) k.logs.logs_match_books

      mine : w.log x ≡ w.book (w.term x)
      mine = leader_book w k x a.leads.leads

      new : Matches books (w.book (w.term x) ++ entry_of (w.term x) q p ∷ [])
      new = matches_push books (w.book (w.term x)) (entry_of (w.term x) q p) (grown.of_book (w.term x))
          (subst (Share (suc (length (w.book (w.term x)))) (w.book (w.term x) ++ entry_of (w.term x) q p ∷ [])) (sym (put_same w.book (w.term x) (w.book (w.term x) ++ entry_of (w.term x) q p ∷ []))) (share_self _ _ (omega (arith, length-append (w.book (w.term x)) (entry_of (w.term x) q p ∷ [])))))
  logs_match_books (Take x o i n) a =
      each_log w.log w.base w.book w.granted (Matches w.book) x (taken (w.log x) o i n)
      (subst (Matches w.book) (sym (taking w k x o i n a).is) (matches_take w.book (o.previous + n) (w.book (w.term x)) (k.logs.logs_match_books.of_book (w.term x)))) k.logs.logs_match_books
  logs_match_books r a = k.logs.logs_match_books

formed_take : (table : List Request) (n : ℕ) (log : List Entry) → IsFormed table log → IsFormed table (take n log)
formed_take table n log h =
    record {
      rising = λ i j le l. let parts = within_take n j log l in
          omega (arith, term_take n i log (omega (arith, le, parts.0)), term_take n j log parts.0, h.rising i j le parts.1);
      distinct = λ i j lt l p q e. let parts = within_take n j log l in
          let one = entry_take n i log (omega (arith, lt, parts.0)) in
          let two = entry_take n j log parts.0 in
          h.distinct i j lt parts.1 (sym (ap (λ (x : Entry). is_request x.kind) one) ∙ p) (sym (ap (λ (x : Entry). is_request x.kind) two) ∙ q)
          (sym (ap (λ (x : Entry). x.rid) one) ∙ (e ∙ ap (λ (x : Entry). x.rid) two));
      listed = λ j l p. let parts = within_take n j log l in
          let two = entry_take n j log parts.0 in
          subst (IsListed table) (sym two) (h.listed j parts.1 (sym (ap (λ (x : Entry). is_request x.kind) two) ∙ p));
    }

module _ (table : List Request) (log : List Entry) (e : Entry) (h : IsFormed table log)
    (above : (k : ℕ) → k < length log → term_at log (suc k) ≤ e.term) (fresh : is_request e.kind ≡ true → Lacks e.rid log)
    (known : is_request e.kind ≡ true → IsListed table e) where
  pushed_rising : (i k : ℕ) → i ≤ k → k < length (log ++ e ∷ []) → (k ≡ length log) ⊎ (k < length log) → term_at (log ++ e ∷ []) (suc i) ≤ term_at (log ++ e ∷ []) (suc k)
  pushed_rising i k le l (inr f) = omega (arith, term_front log e i (omega (arith, le, f)), term_front log e k f, h.rising i k le f)
  pushed_rising i k le l (inl f) = by (same_or_not i k)
    where
      last : term_at (log ++ e ∷ []) (suc k) ≡ e.term
      last = subst (λ (n : ℕ). term_at (log ++ e ∷ []) (suc n) ≡ e.term) (sym f) (ap (λ (x : Entry). x.term) (entry_last log e))

      by : (i ≡ k) ⊎ ((i == k) ≡ false) → term_at (log ++ e ∷ []) (suc i) ≤ term_at (log ++ e ∷ []) (suc k)
      by (inl g) = subst (λ (n : ℕ). term_at (log ++ e ∷ []) (suc n) ≤ term_at (log ++ e ∷ []) (suc k)) (sym g) (omega arith)
      by (inr g) = let low : i < length log = grind (arith, nat_tests, g, le, f) in omega (arith, term_front log e i low, last, above i low)

  pushed_distinct : (i k : ℕ) → i < k → (k ≡ length log) ⊎ (k < length log) → is_request (entry_at (log ++ e ∷ []) (suc i)).kind ≡ true
      → is_request (entry_at (log ++ e ∷ []) (suc k)).kind ≡ true → (entry_at (log ++ e ∷ []) (suc i)).rid ≢ (entry_at (log ++ e ∷ []) (suc k)).rid
  pushed_distinct i k lt (inr f) p q same =
      let one = entry_front log e i (omega (arith, lt, f)) in
      let two = entry_front log e k f in
      h.distinct i k lt f (sym (ap (λ (x : Entry). is_request x.kind) one) ∙ p) (sym (ap (λ (x : Entry). is_request x.kind) two) ∙ q)
      (sym (ap (λ (x : Entry). x.rid) one) ∙ (same ∙ ap (λ (x : Entry). x.rid) two))
  pushed_distinct i k lt (inl f) p q same =
      let low : i < length log = omega (arith, lt, f) in
      let one = entry_front log e i low in
      let two : entry_at (log ++ e ∷ []) (suc k) ≡ e = subst (λ (n : ℕ). entry_at (log ++ e ∷ []) (suc n) ≡ e) (sym f) (entry_last log e) in
      fresh (sym (ap (λ (x : Entry). is_request x.kind) two) ∙ q) i low (sym (ap (λ (x : Entry). is_request x.kind) one) ∙ p)
      (sym (ap (λ (x : Entry). x.rid) one) ∙ (same ∙ ap (λ (x : Entry). x.rid) two))

  pushed_listed : (k : ℕ) → (k ≡ length log) ⊎ (k < length log) → is_request (entry_at (log ++ e ∷ []) (suc k)).kind ≡ true → IsListed table (entry_at (log ++ e ∷ []) (suc k))
  pushed_listed k (inr f) p =
      let one = entry_front log e k f in
      subst (IsListed table) (sym one) (h.listed k f (sym (ap (λ (x : Entry). is_request x.kind) one) ∙ p))
  pushed_listed k (inl f) p =
      let two : entry_at (log ++ e ∷ []) (suc k) ≡ e = subst (λ (n : ℕ). entry_at (log ++ e ∷ []) (suc n) ≡ e) (sym f) (entry_last log e) in
      subst (IsListed table) (sym two) (known (sym (ap (λ (x : Entry). is_request x.kind) two) ∙ p))

  formed_push : IsFormed table (log ++ e ∷ [])
  formed_push =
      record {
        rising = λ i k le l. pushed_rising i k le l (last_or_before log e k l);
        distinct = λ i k lt l p q. pushed_distinct i k lt (last_or_before log e k l) p q;
        listed = λ k l p. pushed_listed k (last_or_before log e k l) p;
      }

-- a request stays in a table that grows
pub in_behind : (q : Request) (table : List Request) (more : List Request) → In q table → In q (table ++ more)
in_behind q [] more h = absurd h
in_behind q (x ∷ table) more (inl e) = inl e
in_behind q (x ∷ table) more (inr h) = inr (in_behind q table more h)

pub in_last : (q : Request) (table : List Request) → In q (table ++ q ∷ [])
in_last q [] = inl refl
in_last q (x ∷ table) = inr (in_last q table)

formed_grown : (table more : List Request) (log : List Entry) → IsFormed table log → IsFormed (table ++ more) log
formed_grown table more log h =
    record {
      rising = h.rising;
      distinct = h.distinct;
      listed = λ k l p. let old = h.listed k l p in record { request = old.request; sent = in_behind old.request table more old.sent; named = old.named; kind_is = old.kind_is };
    }

module _ (w : ProtocolState) (k : Kept w) where
  pub logs_are_formed : (r : Rule) → Allowed w r → LogsAreFormed (after w r)
  logs_are_formed (Stand x) a = each_grant w.log w.base w.book w.granted (IsFormed w.table) (suc (w.term x)) x (grant_of w (suc (w.term x)) x x) (k.logs.logs_are_formed.of_log x) k.logs.logs_are_formed
  logs_are_formed (GrantVote x q) a = each_grant w.log w.base w.book w.granted (IsFormed w.table) (w.term x) x (grant_of w (w.term x) x q.candidate) (k.logs.logs_are_formed.of_log x) k.logs.logs_are_formed
  logs_are_formed (Win x) a =
      each_log w.log (put w.base (w.term x) (w.log x)) (put w.book (w.term x) (w.log x ++ blank_entry (w.term x) ∷ [])) w.granted (IsFormed w.table) x (w.log x ++ blank_entry (w.term x) ∷ []) new
      (each_base w.log w.base (put w.book (w.term x) (w.log x ++ blank_entry (w.term x) ∷ [])) w.granted (IsFormed w.table) (w.term x) (w.log x) (k.logs.logs_are_formed.of_log x)
      (each_book w.log w.base w.book w.granted (IsFormed w.table) (w.term x) (w.log x ++ blank_entry (w.term x) ∷ []) new k.logs.logs_are_formed))
    where
      new : IsFormed w.table (w.log x ++ blank_entry (w.term x) ∷ [])
      new = formed_push w.table (w.log x) (blank_entry (w.term x)) (k.logs.logs_are_formed.of_log x) (λ j h. k.logs.entries_are_old x j h) (λ h. absurd (true≢false (sym h))) (λ h. absurd (true≢false (sym h)))
  logs_are_formed (OrderRequest x q p) a =
      each_log w.log w.base (put w.book (w.term x) (w.book (w.term x) ++ entry_of (w.term x) q p ∷ [])) w.granted (IsFormed w.table) x (w.log x ++ entry_of (w.term x) q p ∷ []) new
      (each_book w.log w.base w.book w.granted (IsFormed w.table) (w.term x) (w.book (w.term x) ++ entry_of (w.term x) q p ∷ [])
      (subst (λ (xs : List Entry). IsFormed w.table (xs ++ entry_of (w.term x) q p ∷ [])) (leader_book w k x a.leads.leads) new) k.logs.logs_are_formed)
    where
      new : IsFormed w.table (w.log x ++ entry_of (w.term x) q p ∷ [])
      new = formed_push w.table (w.log x) (entry_of (w.term x) q p) (k.logs.logs_are_formed.of_log x) (λ j h. k.logs.entries_are_old x j h) (λ h. a.fresh)
          (λ h. record { request = q; sent = a.known; named = refl; kind_is = refl })
  logs_are_formed (Take x o i n) a =
      each_log w.log w.base w.book w.granted (IsFormed w.table) x (taken (w.log x) o i n)
      (subst (IsFormed w.table) (sym (taking w k x o i n a).is) (formed_take w.table (o.previous + n) (w.book (w.term x)) (k.logs.logs_are_formed.of_book (w.term x)))) k.logs.logs_are_formed
  logs_are_formed (SendRequest q) a = each_weaken w.log w.base w.book w.granted (IsFormed w.table) (IsFormed (w.table ++ q ∷ [])) (formed_grown w.table (q ∷ [])) k.logs.logs_are_formed
  logs_are_formed r a = k.logs.logs_are_formed

  old_push : (x : ℕ) (e : Entry) → e.term ≡ w.term x → (j : ℕ) → j < length (w.log x ++ e ∷ []) → term_at (w.log x ++ e ∷ []) (suc j) ≤ w.term x
  old_push x e is j h = by (last_or_before (w.log x) e j h)
    where
      by : (j ≡ length (w.log x)) ⊎ (j < length (w.log x)) → term_at (w.log x ++ e ∷ []) (suc j) ≤ w.term x
      by (inl f) = subst (λ (n : ℕ). term_at (w.log x ++ e ∷ []) (suc n) ≤ w.term x) (sym f) (omega (arith, ap (λ (y : Entry). y.term) (entry_last (w.log x) e), is))
      by (inr f) = omega (arith, term_front (w.log x) e j f, k.logs.entries_are_old x j f)

  -- entries of a book are of terms up to its own
  pub book_old : (t c : ℕ) → w.winner t ≡ Some c → (j : ℕ) → j < length (w.book t) → term_at (w.book t) (suc j) ≤ t
  book_old t c won j h = by (cases_le (length (w.base t)) j)
    where
      shape : IsBookOf t (w.base t) (w.book t)
      shape = k.winners.books_are_of_their_terms t c won

      by : (length (w.base t) ≤ j) ⊎ (j < length (w.base t)) → term_at (w.book t) (suc j) ≤ t
      by (inl f) = omega (arith, shape.own j f h)
      by (inr f) = omega (arith, shape.older j f, term_same (length (w.base t)) j (w.base t) (w.book t) f shape.begins)

  pub entries_are_old : (r : Rule) → Allowed w r → EntriesAreOld (after w r)
  entries_are_old (Rise x s) a = λ v j h. omega (arith, k.logs.entries_are_old v j h, (grows w k (Rise x s) a).terms v)
  entries_are_old (Stand x) a = λ v j h. omega (arith, k.logs.entries_are_old v j h, (grows w k (Stand x) a).terms v)
  entries_are_old (Win x) a = split x (rw (self x) (old_push x (blank_entry (w.term x)) refl)) (λ u e. rw e (k.logs.entries_are_old u))
  entries_are_old (OrderRequest x q p) a = split x (rw (self x) (old_push x (entry_of (w.term x) q p) refl)) (λ u e. rw e (k.logs.entries_are_old u))
  entries_are_old (Take x o i n) a =
      split
      x
      (subst (λ (xs : List Entry). (j : ℕ) → j < length xs → term_at xs (suc j) ≤ w.term x) (sym (put_same w.log x (taken (w.log x) o i n) ∙ (taking w k x o i n a).is)) front)
      (λ u e. rw e (k.logs.entries_are_old u))
    where
      front : (j : ℕ) → j < length (take (o.previous + n) (w.book (w.term x))) → term_at (take (o.previous + n) (w.book (w.term x))) (suc j) ≤ w.term x
      front j h =
          let parts = within_take (o.previous + n) j (w.book (w.term x)) h in
          omega (arith, term_take (o.previous + n) j (w.book (w.term x)) parts.0, book_old (w.term x) o.leader (slice_of w k x o a.hears.sent a.hears.current).won j parts.1)
  entries_are_old r a = k.logs.entries_are_old

  known_grows : (more : List Request) (rid : Rid) → IsKnown w.table rid → IsKnown (w.table ++ more) rid
  known_grows more rid h = record { request = h.request; sent = in_behind h.request w.table more h.sent; named = h.named }

  -- an entry's request is the table's
  known_from : (v : ℕ) (rid : Rid) → StandsIn rid (w.log v) → IsKnown w.table rid
  known_from v rid h =
      let listed = (k.logs.logs_are_formed.of_log v).listed h.behind h.within h.asks in
      record { request = listed.request; sent = listed.sent; named = listed.named ∙ h.named }

  pub bodies_are_known : (r : Rule) → Allowed w r → BodiesAreKnown (after w r)
  bodies_are_known (AskBody x y) a = λ v rid h. by v rid h
    where
      by : (v : ℕ) (rid : Rid) → In rid (w.pool v) ⊎ (((rid ≡ y) ⊎ In rid w.asked) ⊎ In rid w.bodies) → IsKnown w.table rid
      by v rid (inl h) = k.requests.bodies_are_known v rid (inl h)
      by v rid (inr (inl (inl e))) = subst (IsKnown w.table) (sym e) a.known
      by v rid (inr (inl (inr h))) = k.requests.bodies_are_known v rid (inr (inl h))
      by v rid (inr (inr h)) = k.requests.bodies_are_known v rid (inr (inr h))
  bodies_are_known (GiveBody x y) a = λ v rid h. by v rid h
    where
      held : In y (w.pool x) ⊎ StandsIn y (w.log x) → IsKnown w.table y
      held (inl h) = k.requests.bodies_are_known x y (inl h)
      held (inr h) = known_from x y h

      by : (v : ℕ) (rid : Rid) → In rid (w.pool v) ⊎ (In rid w.asked ⊎ ((rid ≡ y) ⊎ In rid w.bodies)) → IsKnown w.table rid
      by v rid (inl h) = k.requests.bodies_are_known v rid (inl h)
      by v rid (inr (inl h)) = k.requests.bodies_are_known v rid (inr (inl h))
      by v rid (inr (inr (inl e))) = subst (IsKnown w.table) (sym e) (held a.held)
      by v rid (inr (inr (inr h))) = k.requests.bodies_are_known v rid (inr (inr h))
  bodies_are_known (Hold x rids) a = λ v rid h. by v rid h
    where
      pools : (v : ℕ) (rid : Rid) → In rid (put w.pool x rids v) → IsKnown w.table rid
      pools = split x (λ rid h. a.known rid (subst (In rid) (put_same w.pool x rids) h)) (λ u e. rw e (λ rid h. k.requests.bodies_are_known u rid (inl h)))

      by : (v : ℕ) (rid : Rid) → In rid (put w.pool x rids v) ⊎ (In rid w.asked ⊎ In rid w.bodies) → IsKnown w.table rid
      by v rid (inl h) = pools v rid h
      by v rid (inr h) = k.requests.bodies_are_known v rid (inr h)
  bodies_are_known (Crash x) a = λ v rid h. by v rid h
    where
      pools : (v : ℕ) (rid : Rid) → In rid (put w.pool x [] v) → IsKnown w.table rid
      pools = split x (λ rid h. absurd (subst (In rid) (put_same w.pool x []) h)) (λ u e. rw e (λ rid h. k.requests.bodies_are_known u rid (inl h)))

      by : (v : ℕ) (rid : Rid) → In rid (put w.pool x [] v) ⊎ (In rid w.asked ⊎ In rid w.bodies) → IsKnown w.table rid
      by v rid (inl h) = pools v rid h
      by v rid (inr h) = k.requests.bodies_are_known v rid (inr h)
  bodies_are_known (SendRequest q) a = λ v rid h. known_grows (q ∷ []) rid (k.requests.bodies_are_known v rid h)
  bodies_are_known r a = k.requests.bodies_are_known

-- a place of a table with one request more
pub at_push : (table : List Request) (q : Request) (i : ℕ) (r : Request) → At (table ++ q ∷ []) i r → At table i r ⊎ ((i ≡ length table) × (q ≡ r))
at_push [] q zero r h = inr (refl, h)
at_push [] q (suc i) r h = absurd h
at_push (x ∷ table) q zero r h = inl h
at_push (x ∷ table) q (suc i) r h = by (at_push table q i r h)
  where
    by : At table i r ⊎ ((i ≡ length table) × (q ≡ r)) → At table i r ⊎ ((suc i ≡ suc (length table)) × (q ≡ r))
    by (inl g) = inl g
    by (inr g) = inr (ap suc g.0, g.1)

-- a request at a place is one of the table, and the place is within it
pub at_in : (table : List Request) (i : ℕ) (r : Request) → At table i r → In r table
at_in [] i r h = absurd h
at_in (x ∷ table) zero r h = inl (sym h)
at_in (x ∷ table) (suc i) r h = inr (at_in table i r h)

pub at_within : (table : List Request) (i : ℕ) (r : Request) → At table i r → i < length table
at_within [] i r h = absurd h
at_within (x ∷ table) zero r h = omega arith
at_within (x ∷ table) (suc i) r h = omega (arith, at_within table i r h)

module _ (w : ProtocolState) (k : Kept w) where
  pub table_is_distinct : (r : Rule) → Allowed w r → TableIsDistinct (after w r)
  table_is_distinct (SendRequest x) a = λ i j q r h g e. by i j q r e (at_push w.table x i q h) (at_push w.table x j r g)
    where
      known : (i : ℕ) (q : Request) → At w.table i q → x.rid ≡ q.rid → ⊥
      known i q h e = a.fresh (record { request = q; sent = at_in w.table i q h; named = sym e })

      by : (i j : ℕ) (q r : Request) → q.rid ≡ r.rid → At w.table i q ⊎ ((i ≡ length w.table) × (x ≡ q)) → At w.table j r ⊎ ((j ≡ length w.table) × (x ≡ r)) → i ≡ j
      by i j q r e (inl h) (inl g) = k.requests.table_is_distinct i j q r h g e
      by i j q r e (inl h) (inr g) = absurd (known i q h (ap (λ (y : Request). y.rid) g.1 ∙ sym e))
      by i j q r e (inr h) (inl g) = absurd (known j r g (ap (λ (y : Request). y.rid) h.1 ∙ e))
      by i j q r e (inr h) (inr g) = h.0 ∙ sym g.0
  table_is_distinct r a = k.requests.table_is_distinct
