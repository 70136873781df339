-- Votes: each fact on votes is kept by each rule.
use Rattle.std.proofs.Common.{◌≡◌, ◌≢◌, ℕ, suc, ◌<◌, ◌≤◌, ◌⊎◌, inl, inr, Bool, true, false, ◌==◌, List, Option, Some, None, is_some, refl, sym, ap, subst, ◌∙◌, arith}
use Rattle.std.proofs.lemmas.Bool.{eqb-true, true≢false}
use Rattle.std.proofs.lemmas.Option.{same_Some, none-some}
use Rattle.r2_base.specs.declared.entry.Entry.{Entry}
use Rattle.hc_rules.specs.Message.{Grant}
use Rattle.hc_rules.specs.Rules.{Rule, Rise, Stand, GrantVote, SendVote, CountVote, Win, OrderRequest, Confirm, Take, Yield, Crash, after, grant_of, vote_of, with_grant}
use Rattle.hc_rules.specs.Conditions.{Allowed}
use Rattle.hc_rules.specs.Protocol.{ProtocolState, Candidate, put, voted}
use Rattle.hc_rules.specs.Kept.{Kept}
use Rattle.std.specs.Prelude.{option_map}
use Rattle.std.specs.Option.{unwrap_or}
use Rattle.hc_rules.specs.Kept.{GrantsAreOld, VotesAreGrants, CountedVotesAreGrants, SentVotesAreGrants, LateGrantsAreOfWonTerms, CandidatesVotedForThemselves, CandidatesHaveTerms, CandidatesHaveNotWon, VotedForItself}
use Rattle.hc_rules.proofs.Grows.{grows, voted_by}
use Rattle.hc_rules.proofs.Puts.{split, self, in_more, same_or_not, put_same}

-- the grant that a step added
pub record Added (granted : ℕ → ℕ → Option Grant) (t v : ℕ) (new : Grant) (s u : ℕ) (g : Grant) : Type 0 where
  pub term : s ≡ t
  pub voter : u ≡ v
  pub is : g ≡ new
  pub free : granted t v ≡ None

new_or_kept : (o : Option Grant) (new g : Grant) → Some (unwrap_or o new) ≡ Some g → (o ≡ Some g) ⊎ ((o ≡ None) × (g ≡ new))
new_or_kept None new g e = inr (refl, sym (same_Some new g e))
new_or_kept (Some x) new g e = inl e

module _ (granted : ℕ → ℕ → Option Grant) (t v : ℕ) (new : Grant) where
  -- a grant after the step was there before, or is the one that was added
  pub with_grant-from : (s u : ℕ) (g : Grant) → with_grant granted t v new s u ≡ Some g → (granted s u ≡ Some g) ⊎ Added granted t v new s u g
  with_grant-from s u g h = by (same_or_not s t) (same_or_not u v)
    where
      at_both : (s ≡ t) → (u ≡ v) → (granted s u ≡ Some g) ⊎ Added granted t v new s u g
      at_both e f =
          let one : with_grant granted t v new t u ≡ Some g = subst (λ (x : ℕ). with_grant granted t v new x u ≡ Some g) e h in
          let two : with_grant granted t v new t v ≡ Some g = subst (λ (x : ℕ). with_grant granted t v new t x ≡ Some g) f one in
          let three : Some (unwrap_or (granted t v) new) ≡ Some g = rw (self v) at (rw (self t) at two) in
          go (new_or_kept (granted t v) new g three)
        where
          go : (granted t v ≡ Some g) ⊎ ((granted t v ≡ None) × (g ≡ new)) → (granted s u ≡ Some g) ⊎ Added granted t v new s u g
          go (inl old) = inl (subst (λ (x : ℕ). granted x u ≡ Some g) (sym e) (subst (λ (x : ℕ). granted t x ≡ Some g) (sym f) old))
          go (inr added) = inr (record { term = e; voter = f; is = added.1; free = added.0 })

      by : (s ≡ t) ⊎ ((s == t) ≡ false) → (u ≡ v) ⊎ ((u == v) ≡ false) → (granted s u ≡ Some g) ⊎ Added granted t v new s u g
      by (inr e) f = inl (rw e at h)
      by (inl e) (inr f) =
          let one : with_grant granted t v new t u ≡ Some g = subst (λ (x : ℕ). with_grant granted t v new x u ≡ Some g) e h in
          let two : granted t u ≡ Some g = rw f at (rw (self t) at one) in
          inl (subst (λ (x : ℕ). granted x u ≡ Some g) (sym e) two)
      by (inl e) (inl f) = at_both e f

  -- other voters' grants are the same
  pub with_grant-other : (s u : ℕ) → (u == v) ≡ false → with_grant granted t v new s u ≡ granted s u
  with_grant-other s u f = by (same_or_not s t)
    where
      by : (s ≡ t) ⊎ ((s == t) ≡ false) → with_grant granted t v new s u ≡ granted s u
      by (inr e) = rw e refl
      by (inl e) = subst (λ (x : ℕ). with_grant granted t v new x u ≡ granted x u) (sym e) (rw (self t) (rw f refl))

  -- the grant that is there then
  pub with_grant-at : with_grant granted t v new t v ≡ Some (unwrap_or (granted t v) new)
  with_grant-at = rw (self t) (rw (self v) refl)

  pub with_grant-new : granted t v ≡ None → with_grant granted t v new t v ≡ Some new
  with_grant-new e = with_grant-at ∙ ap (λ (o : Option Grant). Some (unwrap_or o new)) e

-- to whom a vote went doesn't change
pub voted_grows : (granted x : ℕ → ℕ → Option Grant) → ((t v : ℕ) (g : Grant) → granted t v ≡ Some g → x t v ≡ Some g) → (t v c : ℕ) → voted granted t v ≡ Some c → voted x t v ≡ Some c
voted_grows granted x grow t v c h = by (granted t v) refl
  where
    by : (o : Option Grant) → granted t v ≡ o → voted x t v ≡ Some c
    by None e = absurd (none-some c (sym (ap (λ (o : Option Grant). option_map (λ (g : Grant). g.candidate) o) e) ∙ h))
    by (Some g) e = voted_by x t v g (grow t v g e) ∙ (sym (voted_by granted t v g e) ∙ h)

voted_then : (o : Option Grant) (new : Grant) (c : ℕ) → (option_map (λ (g : Grant). g.candidate) o ≡ None) ⊎ (option_map (λ (g : Grant). g.candidate) o ≡ Some c) → new.candidate ≡ c
    → Some c ≡ option_map (λ (g : Grant). g.candidate) (Some (unwrap_or o new))
voted_then None new c f e = ap Some (sym e)
voted_then (Some g) new c (inl f) e = absurd (none-some g.candidate (sym f))
voted_then (Some g) new c (inr f) e = sym f

module _ (w : ProtocolState) (k : Kept w) where
  -- nobody voted at a term above its own
  pub no_grant : (s v : ℕ) → w.term v < s → w.granted s v ≡ None
  no_grant s v h = by (w.granted s v) refl
    where
      by : (o : Option Grant) → w.granted s v ≡ o → o ≡ None
      by None e = refl
      by (Some g) e = absurd (omega (arith, k.votes.grants_are_old s v g e, h))

  no_vote : (s v : ℕ) → w.term v < s → None ≡ voted w.granted s v
  no_vote s v h = sym (ap (λ (o : Option Grant). option_map (λ (g : Grant). g.candidate) o) (no_grant s v h))

  -- the grant that a member that stands for election gives itself
  pub own_new : (x : ℕ) → (after w (Stand x)).granted (suc (w.term x)) x ≡ Some (grant_of w (suc (w.term x)) x x)
  own_new x = with_grant-new w.granted (suc (w.term x)) x (grant_of w (suc (w.term x)) x x) (no_grant (suc (w.term x)) x (omega arith))

  pub grants_are_old : (r : Rule) → Allowed w r → GrantsAreOld (after w r)
  grants_are_old (Rise x s) a = λ t v g e. omega (arith, k.votes.grants_are_old t v g e, (grows w k (Rise x s) a).terms v)
  grants_are_old (Stand x) a = λ t v g e. by t v g (with_grant-from w.granted (suc (w.term x)) x (grant_of w (suc (w.term x)) x x) t v g e)
    where
      by : (t v : ℕ) (g : Grant) → (w.granted t v ≡ Some g) ⊎ Added w.granted (suc (w.term x)) x (grant_of w (suc (w.term x)) x x) t v g → t ≤ put w.term x (suc (w.term x)) v
      by t v g (inl e) = omega (arith, k.votes.grants_are_old t v g e, (grows w k (Stand x) a).terms v)
      by t v g (inr e) = subst (λ (u : ℕ). t ≤ put w.term x (suc (w.term x)) u) (sym e.voter) (rw (self x) (omega (arith, e.term)))
  grants_are_old (GrantVote x q) a = λ t v g e. by t v g (with_grant-from w.granted (w.term x) x (grant_of w (w.term x) x q.candidate) t v g e)
    where
      by : (t v : ℕ) (g : Grant) → (w.granted t v ≡ Some g) ⊎ Added w.granted (w.term x) x (grant_of w (w.term x) x q.candidate) t v g → t ≤ w.term v
      by t v g (inl e) = k.votes.grants_are_old t v g e
      by t v g (inr e) = subst (λ (u : ℕ). t ≤ w.term u) (sym e.voter) (omega (arith, e.term))
  grants_are_old r a = k.votes.grants_are_old

  pub votes_are_grants : (r : Rule) → Allowed w r → VotesAreGrants (after w r)
  votes_are_grants (Rise x s) a = split x (rw (self x) (no_vote s x a.higher)) (λ u e. rw e (k.votes.votes_are_grants u))
  votes_are_grants (Stand x) a =
      split
      x
      (let new = voted_by (after w (Stand x)).granted (suc (w.term x)) x (grant_of w (suc (w.term x)) x x) (own_new x) in
      put_same w.vote x (Some x) ∙ (sym new ∙ ap (λ (t : ℕ). voted (after w (Stand x)).granted t x) (sym (put_same w.term x (suc (w.term x))))))
      (λ u e.
      let same = ap (λ (o : Option Grant). option_map (λ (g : Grant). g.candidate) o) (with_grant-other w.granted (suc (w.term x)) x (grant_of w (suc (w.term x)) x x) (w.term u) u e) in
      rw e (k.votes.votes_are_grants u ∙ sym same))
  votes_are_grants (GrantVote x q) a =
      split
      x
      (let new = voted_then (w.granted (w.term x) x) (grant_of w (w.term x) x q.candidate) q.candidate (free a.free) refl in
      put_same w.vote x (Some q.candidate) ∙ (new ∙ ap (λ (o : Option Grant). option_map (λ (g : Grant). g.candidate) o) (sym (with_grant-at w.granted (w.term x) x (grant_of w (w.term x) x q.candidate)))))
      (λ u e.
      let same = ap (λ (o : Option Grant). option_map (λ (g : Grant). g.candidate) o) (with_grant-other w.granted (w.term x) x (grant_of w (w.term x) x q.candidate) (w.term u) u e) in
      rw e (k.votes.votes_are_grants u ∙ sym same))
    where
      free : (w.vote x ≡ None) ⊎ (w.vote x ≡ Some q.candidate) → (voted w.granted (w.term x) x ≡ None) ⊎ (voted w.granted (w.term x) x ≡ Some q.candidate)
      free (inl e) = inl (sym (k.votes.votes_are_grants x) ∙ e)
      free (inr e) = inr (sym (k.votes.votes_are_grants x) ∙ e)
  votes_are_grants r a = k.votes.votes_are_grants

  pub counted_votes_are_grants : (r : Rule) → Allowed w r → CountedVotesAreGrants (after w r)
  counted_votes_are_grants (Rise x s) a = split x (rw (self x) (λ c h. absurd (true≢false (sym h)))) (λ u e. rw e (k.votes.counted_votes_are_grants u))
  counted_votes_are_grants (Stand x) a = split x own (λ u e. rw e (others u))
    where
      new : ℕ → ℕ → Option Grant
      new = (after w (Stand x)).granted

      own : (c : ℕ) → put w.counted x (λ c. c == x) x c ≡ true → voted (after w (Stand x)).granted (put w.term x (suc (w.term x)) x) c ≡ Some x
      own c h =
          let test : (c == x) ≡ true = sym (ap (λ (f : ℕ → Bool). f c) (put_same w.counted x (λ c. c == x))) ∙ h in
          let same = eqb-true c x test in
          let mine = voted_by (after w (Stand x)).granted (suc (w.term x)) x (grant_of w (suc (w.term x)) x x) (own_new x) in
          subst
          (λ (t : ℕ). voted (after w (Stand x)).granted t c ≡ Some x)
          (sym (put_same w.term x (suc (w.term x))))
          (subst (λ (u : ℕ). voted (after w (Stand x)).granted (suc (w.term x)) u ≡ Some x) (sym same) mine)

      others : (u c : ℕ) → w.counted u c ≡ true → voted (after w (Stand x)).granted (w.term u) c ≡ Some u
      others u c h = voted_grows w.granted (after w (Stand x)).granted (grows w k (Stand x) a).grants (w.term u) c u (k.votes.counted_votes_are_grants u c h)
  counted_votes_are_grants (GrantVote x q) a = λ v c h. voted_grows w.granted (after w (GrantVote x q)).granted (grows w k (GrantVote x q) a).grants (w.term v) c v (k.votes.counted_votes_are_grants v c h)
  counted_votes_are_grants (CountVote x c) a =
      split
      x
      (rw (self x) (split c (λ h. k.votes.sent_votes_are_grants (vote_of (w.term x) c x) a.sent) (λ u e. rw e (k.votes.counted_votes_are_grants x u))))
      (λ u e. rw e (k.votes.counted_votes_are_grants u))
  counted_votes_are_grants (Crash x) a = split x (rw (self x) (λ c h. absurd (true≢false (sym h)))) (λ u e. rw e (k.votes.counted_votes_are_grants u))
  counted_votes_are_grants r a = k.votes.counted_votes_are_grants

  pub sent_votes_are_grants : (r : Rule) → Allowed w r → SentVotesAreGrants (after w r)
  sent_votes_are_grants (Stand x) a = λ y h. voted_grows w.granted (after w (Stand x)).granted (grows w k (Stand x) a).grants y.term y.voter y.candidate (k.votes.sent_votes_are_grants y h)
  sent_votes_are_grants (GrantVote x q) a = λ y h. voted_grows w.granted (after w (GrantVote x q)).granted (grows w k (GrantVote x q) a).grants y.term y.voter y.candidate (k.votes.sent_votes_are_grants y h)
  sent_votes_are_grants (SendVote x c) a = in_more w.votes (sym (k.votes.votes_are_grants x) ∙ a.voted) k.votes.sent_votes_are_grants
  sent_votes_are_grants r a = k.votes.sent_votes_are_grants

  pub late_grants_are_of_won_terms : (r : Rule) → Allowed w r → LateGrantsAreOfWonTerms (after w r)
  late_grants_are_of_won_terms (Stand x) a = λ t v g e l. by t v g l (with_grant-from w.granted (suc (w.term x)) x (grant_of w (suc (w.term x)) x x) t v g e)
    where
      by : (t v : ℕ) (g : Grant) → g.late ≡ true → (w.granted t v ≡ Some g) ⊎ Added w.granted (suc (w.term x)) x (grant_of w (suc (w.term x)) x x) t v g → is_some (w.winner t) ≡ true
      by t v g l (inl e) = k.votes.late_grants_are_of_won_terms t v g e l
      by t v g l (inr e) = subst (λ (s : ℕ). is_some (w.winner s) ≡ true) (sym e.term) (sym (ap (λ (y : Grant). y.late) e.is) ∙ l)
  late_grants_are_of_won_terms (GrantVote x q) a = λ t v g e l. by t v g l (with_grant-from w.granted (w.term x) x (grant_of w (w.term x) x q.candidate) t v g e)
    where
      by : (t v : ℕ) (g : Grant) → g.late ≡ true → (w.granted t v ≡ Some g) ⊎ Added w.granted (w.term x) x (grant_of w (w.term x) x q.candidate) t v g → is_some (w.winner t) ≡ true
      by t v g l (inl e) = k.votes.late_grants_are_of_won_terms t v g e l
      by t v g l (inr e) = subst (λ (s : ℕ). is_some (w.winner s) ≡ true) (sym e.term) (sym (ap (λ (y : Grant). y.late) e.is) ∙ l)
  late_grants_are_of_won_terms (Win x) a = λ t v g e l. by t (k.votes.late_grants_are_of_won_terms t v g e l)
    where
      by : (t : ℕ) → is_some (w.winner t) ≡ true → is_some (put w.winner (w.term x) (Some x) t) ≡ true
      by = split (w.term x) (λ h. rw (self (w.term x)) refl) (λ t e h. rw e h)
  late_grants_are_of_won_terms r a = k.votes.late_grants_are_of_won_terms

-- a member's vote for itself stays
pub voted_for_itself_grows : (granted x : ℕ → ℕ → Option Grant) → ((t v : ℕ) (g : Grant) → granted t v ≡ Some g → x t v ≡ Some g) → (t v : ℕ) (log : List Entry) → VotedForItself granted t v log → VotedForItself x t v log
voted_for_itself_grows granted x grow t v log h = record { grant = h.grant; given = grow t v h.grant h.given; own = h.own; same = h.same }

module _ (w : ProtocolState) (k : Kept w) where
  pub candidates_voted_for_themselves : (r : Rule) → Allowed w r → CandidatesVotedForThemselves (after w r)
  candidates_voted_for_themselves (Rise x s) a = split x (rw (self x) (λ h. cc)) (λ u e. rw e (k.votes.candidates_voted_for_themselves u))
  candidates_voted_for_themselves (Stand x) a = split x own (λ u e. rw e (λ h. others u (k.votes.candidates_voted_for_themselves u h)))
    where
      own : put w.role x Candidate x ≡ Candidate → VotedForItself (after w (Stand x)).granted (put w.term x (suc (w.term x)) x) x (w.log x)
      own h =
          subst
          (λ (t : ℕ). VotedForItself (after w (Stand x)).granted t x (w.log x))
          (sym (put_same w.term x (suc (w.term x))))
          (record { grant = grant_of w (suc (w.term x)) x x; given = own_new w k x; own = refl; same = refl })

      others : (u : ℕ) → VotedForItself w.granted (w.term u) u (w.log u) → VotedForItself (after w (Stand x)).granted (w.term u) u (w.log u)
      others u h = voted_for_itself_grows w.granted (after w (Stand x)).granted (grows w k (Stand x) a).grants (w.term u) u (w.log u) h
  candidates_voted_for_themselves (GrantVote x q) a = λ u h. voted_for_itself_grows w.granted (after w (GrantVote x q)).granted (grows w k (GrantVote x q) a).grants (w.term u) u (w.log u) (k.votes.candidates_voted_for_themselves u h)
  candidates_voted_for_themselves (Win x) a = split x (rw (self x) (λ h. cc)) (λ u e. rw e (k.votes.candidates_voted_for_themselves u))
  candidates_voted_for_themselves (OrderRequest x q p) a = split x (λ h. let leads = a.leads.leads in cc) (λ u e. rw e (k.votes.candidates_voted_for_themselves u))
  candidates_voted_for_themselves (Confirm x o n) a = split x (rw (self x) (λ h. cc)) (λ u e. rw e (k.votes.candidates_voted_for_themselves u))
  candidates_voted_for_themselves (Take x o i n) a = split x (rw (self x) (λ h. cc)) (λ u e. rw e (k.votes.candidates_voted_for_themselves u))
  candidates_voted_for_themselves (Yield x o) a = split x (rw (self x) (λ h. cc)) (λ u e. rw e (k.votes.candidates_voted_for_themselves u))
  candidates_voted_for_themselves (Crash x) a = split x (rw (self x) (λ h. cc)) (λ u e. rw e (k.votes.candidates_voted_for_themselves u))
  candidates_voted_for_themselves r a = k.votes.candidates_voted_for_themselves

  pub candidates_have_terms : (r : Rule) → Allowed w r → CandidatesHaveTerms (after w r)
  candidates_have_terms (Rise x s) a = split x (rw (self x) (λ h. cc)) (λ u e. rw e (k.votes.candidates_have_terms u))
  candidates_have_terms (Stand x) a = split x (rw (self x) (λ h. omega arith)) (λ u e. rw e (k.votes.candidates_have_terms u))
  candidates_have_terms (Win x) a = split x (rw (self x) (λ h. cc)) (λ u e. rw e (k.votes.candidates_have_terms u))
  candidates_have_terms (Confirm x o n) a = split x (rw (self x) (λ h. cc)) (λ u e. rw e (k.votes.candidates_have_terms u))
  candidates_have_terms (Take x o i n) a = split x (rw (self x) (λ h. cc)) (λ u e. rw e (k.votes.candidates_have_terms u))
  candidates_have_terms (Yield x o) a = split x (rw (self x) (λ h. cc)) (λ u e. rw e (k.votes.candidates_have_terms u))
  candidates_have_terms (Crash x) a = split x (rw (self x) (λ h. cc)) (λ u e. rw e (k.votes.candidates_have_terms u))
  candidates_have_terms r a = k.votes.candidates_have_terms

  pub candidates_have_not_won : (r : Rule) → Allowed w r → CandidatesHaveNotWon (after w r)
  candidates_have_not_won (Rise x s) a = split x (rw (self x) (λ h. cc)) (λ u e. rw e (k.votes.candidates_have_not_won u))
  candidates_have_not_won (Stand x) a =
      split x (rw (self x) (λ h won. omega (arith, k.winners.winners_are_not_behind (suc (w.term x)) x won))) (λ u e. rw e (k.votes.candidates_have_not_won u))
  candidates_have_not_won (Win x) a = split x (rw (self x) (λ h. cc)) (λ u e. rw e (λ h. by (w.term u) u e (k.votes.candidates_have_not_won u h)))
    where
      by : (t u : ℕ) → (u == x) ≡ false → w.winner t ≢ Some u → put w.winner (w.term x) (Some x) t ≢ Some u
      by t u e = split (w.term x) {G = λ t. w.winner t ≢ Some u → put w.winner (w.term x) (Some x) t ≢ Some u} (λ h is. absurd (apart u e (same_Some x u (sym (put_same w.winner (w.term x) (Some x)) ∙ is)))) (λ s f h. rw f h) t
        where
          apart : (u : ℕ) → (u == x) ≡ false → x ≡ u → ⊥
          apart u e s = true≢false (sym (self x) ∙ subst (λ (y : ℕ). (y == x) ≡ false) (sym s) e)
  candidates_have_not_won (Confirm x o n) a = split x (rw (self x) (λ h. cc)) (λ u e. rw e (k.votes.candidates_have_not_won u))
  candidates_have_not_won (Take x o i n) a = split x (rw (self x) (λ h. cc)) (λ u e. rw e (k.votes.candidates_have_not_won u))
  candidates_have_not_won (Yield x o) a = split x (rw (self x) (λ h. cc)) (λ u e. rw e (k.votes.candidates_have_not_won u))
  candidates_have_not_won (Crash x) a = split x (rw (self x) (λ h. cc)) (λ u e. rw e (k.votes.candidates_have_not_won u))
  candidates_have_not_won r a = k.votes.candidates_have_not_won
