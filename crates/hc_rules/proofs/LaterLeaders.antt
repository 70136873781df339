-- Later leaders have what was committed.
use Rattle.std.proofs.Common.{◌≡◌, ℕ, zero, suc, ◌<◌, ◌≤◌, ◌⊎◌, inl, inr, Bool, true, false, ◌==◌, if◌then◌else◌, List, [], ◌∷◌, length, Option, Some, None, refl, sym, ap, subst, ◌∙◌, arith}
use Rattle.std.proofs.lemmas.Bool.{and_parts, eqb-true, true≢false}
use Rattle.std.proofs.lemmas.Option.{same_Some}
use Rattle.r2_base.specs.declared.entry.Entry.{Entry}
use Rattle.hc_rules.specs.Log.{IsNotAhead, Share, last_term, term_at}
use Rattle.hc_rules.specs.Message.{Grant, Request}
use Rattle.hc_rules.specs.Protocol.{ProtocolState, Committed, backs, is_early_for}
use Rattle.hc_rules.specs.Kept.{Kept, IsFormed}
use Rattle.hc_rules.proofs.Majorities.{shared_member}
use Rattle.hc_rules.proofs.Shares.{share-sym, share-trans, share_less, term_same}

-- the grant of an early vote
pub record EarlyGrant (c : ℕ) (given : Option Grant) : Type 0 where
  pub grant : Grant
  pub is : given ≡ Some grant
  pub candidate : grant.candidate ≡ c
  pub early : grant.late ≡ false

not_late : (late : Bool) → (if late then false else true) ≡ true → late ≡ false
not_late true e = absurd (true≢false (sym e))
not_late false e = refl

pub early_grant : (c : ℕ) (o : Option Grant) → is_early_for c o ≡ true → EarlyGrant c o
early_grant c None e = absurd (true≢false (sym e))
early_grant c (Some g) e =
    let parts = and_parts (g.candidate == c) (if g.late then false else true) e in
    record { grant = g; is = refl; candidate = eqb-true g.candidate c parts.0; early = not_late g.late parts.1 }

pub cases_le : (a b : ℕ) → (a ≤ b) ⊎ (b < a)
cases_le a b = grind arith

pub positive : (n : ℕ) → 0 < n → (l : ℕ) × (n ≡ suc l)
positive zero h = absurd (omega (arith, h))
positive (suc n) h = (n, refl)

-- a log at least as recent as one that ends in a term above 0 isn't empty
not_empty : (log : List Entry) (term index : ℕ) → IsNotAhead term index (last_term log) (length log) → 0 < term → 0 < length log
not_empty [] term index (inl a) h = absurd (omega (arith, a, h))
not_empty [] term index (inr a) h = absurd (omega (arith, a.0, h))
not_empty (e ∷ log) term index a h = omega arith

-- an entry's term is at most that of the last entry
pub below_last : (table : List Request) (log : List Entry) (i l : ℕ) → IsFormed table log → i < length log → length log ≡ suc l → term_at log (suc i) ≤ last_term log
below_last table log i l formed h e = rw e (formed.rising i l (omega arith) (omega arith))

module _ (w : ProtocolState) (kept : Kept w) where
  -- a term whose book has an entry was won
  pub won_by : (t : ℕ) → 0 < length (w.book t) → (c : ℕ) × (w.winner t ≡ Some c)
  won_by t h = by (w.winner t) refl
    where
      by : (o : Option ℕ) → w.winner t ≡ o → (c : ℕ) × (w.winner t ≡ Some c)
      by None e = let nothing = ap (length {A = Entry}) (kept.winners.unwon_terms_have_nothing t e).no_book in absurd (omega arith)
      by (Some c) e = (c, e)

  -- the base of a term is shorter than what ends in an entry of the term
  base_shorter : (T l c : ℕ) (log : List Entry) → Share (suc l) log (w.book T) → w.winner T ≡ Some c → term_at log (suc l) ≡ T → length (w.base T) ≤ l
  base_shorter T l c log matches won is = by (cases_le (length (w.base T)) l)
    where
      by : (length (w.base T) ≤ l) ⊎ (l < length (w.base T)) → length (w.base T) ≤ l
      by (inl h) = h
      by (inr h) =
          let shape = kept.winners.books_are_of_their_terms T c won in
          let old = shape.older l h in
          let one = term_same (suc l) l log (w.book T) (omega arith) matches in
          let two = term_same (length (w.base T)) l (w.base T) (w.book T) h shape.begins in
          absurd (omega (arith, old, one, two, is))

  -- a log that ends in a term begins with that term's base
  begins_with_base : (m T l c : ℕ) (log : List Entry) → Share (suc l) log (w.book T) → term_at log (suc l) ≡ T → w.winner T ≡ Some c → m ≤ length (w.base T) → Share m log (w.base T)
  begins_with_base m T l c log matches is won h =
      let shape = kept.winners.books_are_of_their_terms T c won in
      let shorter = base_shorter T l c log matches won is in
      share-trans m log (w.book T) (w.base T)
      (share_less m (suc l) log (w.book T) (omega arith) matches)
      (share-sym m (w.base T) (w.book T) (share_less m (length (w.base T)) (w.base T) (w.book T) h shape.begins))

  module _ (t m : ℕ) (committed : Committed w t m) where
    -- where a base ends in a later term than t
    by_later : (u c T l : ℕ) → w.winner u ≡ Some c → length (w.base u) ≡ suc l → term_at (w.base u) (suc l) ≡ T
        → ((c' : ℕ) → w.winner T ≡ Some c' → Share m (w.base T) (w.book t)) → Share m (w.base u) (w.book t)
    by_later u c T l won long is before =
        let matches : Share (suc l) (w.base u) (w.book T) = subst (λ (x : ℕ). Share (suc l) (w.base u) (w.book x)) is (kept.logs.logs_match_books.of_base u l (omega arith)) in
        let wins = won_by T (omega (arith, matches.there)) in
        let early = before wins.0 wins.1 in
        share-trans m (w.base u) (w.base T) (w.book t) (begins_with_base m T l wins.0 (w.base u) matches is wins.1 early.here) early

    -- where it ends in t and is long enough
    by_same : (u l : ℕ) → length (w.base u) ≡ suc l → term_at (w.base u) (suc l) ≡ t → m ≤ suc l → Share m (w.base u) (w.book t)
    by_same u l long is h =
        let matches : Share (suc l) (w.base u) (w.book t) = subst (λ (x : ℕ). Share (suc l) (w.base u) (w.book x)) is (kept.logs.logs_match_books.of_base u l (omega arith)) in
        share_less m (suc l) (w.base u) (w.book t) h matches

    -- a log that has what was committed ends in a term of at least t
    ends_in : (log : List Entry) (table : List Request) → IsFormed table log → Share m log (w.book t) → t ≤ last_term log
    ends_in log table formed has =
        let i = positive m committed.here in
        let l = positive (length log) (omega (arith, has.here, committed.here)) in
        let one = below_last table log i.0 l.0 formed (omega (arith, has.here, i.1)) l.1 in
        let two = term_same m i.0 log (w.book t) (omega (arith, i.1)) has in
        let own : term_at (w.book t) (suc i.0) ≡ t = subst (λ (x : ℕ). term_at (w.book t) x ≡ t) i.1 committed.own in
        omega (arith, one, two, own)

    -- a base at least as recent as a log that has what was committed has it too
    has_it : (u c l : ℕ) (log : List Entry) (table : List Request) → IsFormed table log → Share m log (w.book t)
        → IsNotAhead (last_term log) (length log) (last_term (w.base u)) (length (w.base u)) → w.winner u ≡ Some c → length (w.base u) ≡ suc l
        → ((T c' : ℕ) → t < T → T < u → w.winner T ≡ Some c' → Share m (w.base T) (w.book t)) → Share m (w.base u) (w.book t)
    has_it u c l log table formed has ahead won long before = by ahead (cases_le T t)
      where
        T : ℕ
        T = term_at (w.base u) (suc l)

        ends : last_term (w.base u) ≡ T
        ends = ap (term_at (w.base u)) long

        least : t ≤ last_term log
        least = ends_in log table formed has

        old : T < u
        old = (kept.winners.books_are_of_their_terms u c won).older l (omega arith)

        by : IsNotAhead (last_term log) (length log) (last_term (w.base u)) (length (w.base u)) → (T ≤ t) ⊎ (t < T) → Share m (w.base u) (w.book t)
        by a (inr h) = by_later u c T l won long refl (λ c' e. before T c' h old e)
        by (inl a) (inl h) = absurd (omega (arith, a, h, least, ends))
        by (inr a) (inl h) = by_same u l long (omega (arith, a.0, h, least, ends)) (omega (arith, a.1, has.here, long))

    -- a winner's base has what a voter kept
    from_voter : (u c v : ℕ) (g : Grant) → w.winner u ≡ Some c → w.granted u v ≡ Some g → g.candidate ≡ c → Share m g.log (w.book t)
        → ((T c' : ℕ) → t < T → T < u → w.winner T ≡ Some c' → Share m (w.base T) (w.book t)) → Share m (w.base u) (w.book t)
    from_voter u c v g won given to has before =
        let voter = kept.votes.voters_are_behind u v g given in
        let winner = kept.winners.winners_voted_for_themselves u c won in
        let their : w.granted u c ≡ Some voter.theirs = subst (λ (x : ℕ). w.granted u x ≡ Some voter.theirs) to voter.given in
        let same : voter.theirs ≡ winner.grant = same_Some voter.theirs winner.grant (sym their ∙ winner.given) in
        let ahead : IsNotAhead (last_term g.log) (length g.log) (last_term (w.base u)) (length (w.base u)) =
        subst (λ (log : List Entry). IsNotAhead (last_term g.log) (length g.log) (last_term log) (length log)) (ap (λ (x : Grant). x.log) same ∙ winner.same) voter.behind in
        let formed = kept.logs.logs_are_formed.of_grant u v g given in
        let least = ends_in g.log w.table formed has in
        let positive_t = positive_term in
        let l = positive (length (w.base u)) (not_empty (w.base u) (last_term g.log) (length g.log) ahead (omega (arith, least, positive_t))) in
        has_it u c l.0 g.log w.table formed has ahead won l.1 before
      where
        positive_term : 0 < t
        positive_term = let wins = won_by t (omega (arith, committed.here, committed.within)) in kept.winners.won_terms_are_positive t wins.0 wins.1

    -- one more term
    next : (u c : ℕ) → t < u → w.winner u ≡ Some c
        → ((T c' : ℕ) → t < T → T < u → w.winner T ≡ Some c' → Share m (w.base T) (w.book t)) → Share m (w.base u) (w.book t)
    next u c later won before =
        let shared = shared_member w.size (λ v. is_early_for c (w.granted u v)) (backs w.winner w.acks t m) (kept.winners.winners_had_majorities u c won) committed.backed in
        let early = early_grant c (w.granted u shared.member) shared.first in
        let has = kept.acknowledgements.granted_is_kept t m u shared.member early.grant early.is early.early later shared.second committed.within before in
        from_voter u c shared.member early.grant won early.is early.candidate has before

    below : (n u c : ℕ) → u < n → t < u → w.winner u ≡ Some c → Share m (w.base u) (w.book t)
    below zero u c h later won = absurd (omega (arith, h))
    below (suc n) u c h later won = next u c later won (λ T c' after lower e. below n T c' (omega (arith, h, lower)) after e)

    -- the base of each later term that was won begins with what was committed
    pub later_base : (u c : ℕ) → t < u → w.winner u ≡ Some c → Share m (w.base u) (w.book t)
    later_base u c later won = below (suc u) u c (omega arith) later won
