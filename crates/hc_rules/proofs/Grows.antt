-- What only grows with each step.
use Rattle.std.proofs.Common.{◌≡◌, ℕ, suc, ◌≤◌, inr, List, [], ◌∷◌, ◌++◌, length, Option, Some, None, refl, sym, ap, ◌∙◌, arith, append-nil}
use Rattle.std.proofs.lemmas.Option.{same_Some, none-some}
use Rattle.r2_base.specs.declared.rid.Rid.{Rid}
use Rattle.hc_rules.specs.Log.{In, Share}
use Rattle.hc_rules.specs.Message.{VoteRequest, Vote, Order, Ack, AggregateCommit, Refusal, Nack, Request, Grant, Report, Passed, Reply}
use Rattle.hc_rules.specs.Rules.{Rule, Rise, Stand, AskVotes, GrantVote, SendVote, Win, OrderRequest, SendOrder, Acknowledge, Aggregate, Apply, Answer, AnswerAgain, AskBody, GiveBody, NoteReport, NoteOwnReport, Refuse, RejectOrder, SendRequest, after, ack_of, grant_of}
use Rattle.hc_rules.specs.Conditions.{Allowed, MayWin}
use Rattle.hc_rules.specs.Protocol.{ProtocolState, acked, is_early_for, voted}
use Rattle.hc_rules.specs.Kept.{Kept}
use Rattle.hc_rules.specs.Parts.{Grows}
use Rattle.hc_rules.proofs.LaterLeaders.{early_grant}
use Rattle.hc_rules.proofs.Majorities.{shared_member}
use Rattle.hc_rules.proofs.Puts.{split, self, with_grant-keeps, acked_more}
use Rattle.hc_rules.proofs.Shares.{share_none, share_self, share_behind}

-- who has a grant voted for its candidate
pub voted_by : (granted : ℕ → ℕ → Option Grant) (t v : ℕ) (g : Grant) → granted t v ≡ Some g → voted granted t v ≡ Some g.candidate
voted_by granted t v g e = ap (λ (o : Option Grant). voted (λ s u. o) t v) e

module _ (w : ProtocolState) (k : Kept w) where
  -- a candidate that has a majority of its term's votes is the first
  pub unwon : (v : ℕ) → MayWin w v → w.winner (w.term v) ≡ None
  unwon v a = by (w.winner (w.term v)) refl
    where
      by : (o : Option ℕ) → w.winner (w.term v) ≡ o → o ≡ None
      by None e = refl
      by (Some c) e =
          let shared = shared_member w.size (w.counted v) (λ u. is_early_for c (w.granted (w.term v) u)) a.majority (k.winners.winners_had_majorities (w.term v) c e) in
          let mine = k.votes.counted_votes_are_grants v shared.member shared.first in
          let early = early_grant c (w.granted (w.term v) shared.member) shared.second in
          let theirs = voted_by w.granted (w.term v) shared.member early.grant early.is in
          let same : c ≡ v = sym early.candidate ∙ same_Some early.grant.candidate v (sym theirs ∙ mine) in
          absurd (k.votes.candidates_have_not_won v a.competes.competes (e ∙ ap Some same))

  terms_grow : (r : Rule) → Allowed w r → (v : ℕ) → w.term v ≤ (after w r).term v
  terms_grow (Rise x s) a = split x (rw (self x) (omega (arith, a.higher))) (λ u e. rw e (omega arith))
  terms_grow (Stand x) a = split x (rw (self x) (omega arith)) (λ u e. rw e (omega arith))
  terms_grow r a = λ v. omega arith

  grants_grow : (r : Rule) (t v : ℕ) (g : Grant) → w.granted t v ≡ Some g → (after w r).granted t v ≡ Some g
  grants_grow (Stand x) t v g e = with_grant-keeps w.granted (suc (w.term x)) x (grant_of w (suc (w.term x)) x x) t v g e
  grants_grow (GrantVote x q) t v g e = with_grant-keeps w.granted (w.term x) x (grant_of w (w.term x) x q.candidate) t v g e
  grants_grow r t v g e = e

  winners_grow : (r : Rule) → Allowed w r → (t c : ℕ) → w.winner t ≡ Some c → (after w r).winner t ≡ Some c
  winners_grow (Win x) a = split (w.term x) (λ c e. absurd (none-some c (sym (unwon x a) ∙ e))) (λ t e c h. rw e h)
  winners_grow r a = λ t c e. e

  bases_grow : (r : Rule) → Allowed w r → (t c : ℕ) → w.winner t ≡ Some c → (after w r).base t ≡ w.base t
  bases_grow (Win x) a = split (w.term x) (λ c e. absurd (none-some c (sym (unwon x a) ∙ e))) (λ t e c h. rw e refl)
  bases_grow r a = λ t c e. refl

  books_grow : (r : Rule) → Allowed w r → (t : ℕ) → Share (length (w.book t)) (w.book t) ((after w r).book t)
  books_grow (Win x) a =
      split
      (w.term x)
      (let empty = (k.winners.unwon_terms_have_nothing (w.term x) (unwon x a)).no_book in rw empty (share_none _ _))
      (λ t e. rw e (share_self _ (w.book t) (omega arith)))
  books_grow (OrderRequest x q p) a =
      split
      (w.term x)
      (rw (self (w.term x)) (share_behind _ _ _ _ (share_self _ (w.book (w.term x)) (omega arith))))
      (λ t e. rw e (share_self _ (w.book t) (omega arith)))
  books_grow r a = λ t. share_self _ (w.book t) (omega arith)

  vote_requests_grow : (r : Rule) (q : VoteRequest) → In q w.vote_requests → In q (after w r).vote_requests
  vote_requests_grow (AskVotes v) q h = inr h
  vote_requests_grow r q h = h

  votes_grow : (r : Rule) (y : Vote) → In y w.votes → In y (after w r).votes
  votes_grow (SendVote v c) y h = inr h
  votes_grow r y h = h

  orders_grow : (r : Rule) (o : Order) → In o w.orders → In o (after w r).orders
  orders_grow (SendOrder v previous count) o h = inr h
  orders_grow r o h = h

  acks_grow : (r : Rule) (a : Ack) → In a w.acks → In a (after w r).acks
  acks_grow (Acknowledge v m) a h = inr h
  acks_grow r a h = h

  acked_grows : (r : Rule) (t v : ℕ) → acked w.acks t v ≤ acked (after w r).acks t v
  acked_grows (Acknowledge x m) t v = acked_more (ack_of w x m) w.acks t v
  acked_grows r t v = omega arith

  aggregates_grow : (r : Rule) (a : AggregateCommit) → In a w.aggregates → In a (after w r).aggregates
  aggregates_grow (Aggregate o m) a h = inr h
  aggregates_grow r a h = h

  refusals_grow : (r : Rule) (y : Refusal) → In y w.refusals → In y (after w r).refusals
  refusals_grow (Refuse v) y h = inr h
  refusals_grow r y h = h

  nacks_grow : (r : Rule) (y : Nack) → In y w.nacks → In y (after w r).nacks
  nacks_grow (RejectOrder v hint) y h = inr h
  nacks_grow r y h = h

  asked_grow : (r : Rule) (rid : Rid) → In rid w.asked → In rid (after w r).asked
  asked_grow (AskBody v y) rid h = inr h
  asked_grow r rid h = h

  bodies_grow : (r : Rule) (rid : Rid) → In rid w.bodies → In rid (after w r).bodies
  bodies_grow (GiveBody v y) rid h = inr h
  bodies_grow r rid h = h

  table_grows : (r : Rule) → (rest : List Request) × ((after w r).table ≡ w.table ++ rest)
  table_grows (SendRequest q) = (q ∷ [], refl)
  table_grows r = ([], sym (append-nil w.table))

  reports_grow : (r : Rule) (x : Report) → In x w.reports → In x (after w r).reports
  reports_grow (NoteReport v a) x h = inr h
  reports_grow (NoteOwnReport v) x h = inr h
  reports_grow r x h = h

  passed_grow : (r : Rule) (x : Passed) → In x w.passed → In x (after w r).passed
  passed_grow (Apply v) x h = inr h
  passed_grow r x h = h

  replied_grow : (r : Rule) (x : Reply) → In x w.replied → In x (after w r).replied
  replied_grow (Answer v index payload) x h = inr h
  replied_grow (AnswerAgain v y e) x h = inr h
  replied_grow r x h = h

  pub grows : (r : Rule) → Allowed w r → Grows w (after w r)
  grows r a =
      record {
        terms = terms_grow r a;
        grants = grants_grow r;
        winners = winners_grow r a;
        bases = bases_grow r a;
        books = books_grow r a;
        vote_requests = vote_requests_grow r;
        votes = votes_grow r;
        orders = orders_grow r;
        acks = acks_grow r;
        acked = acked_grows r;
        aggregates = aggregates_grow r;
        refusals = refusals_grow r;
        nacks = nacks_grow r;
        asked = asked_grow r;
        bodies = bodies_grow r;
        table = table_grows r;
        reports = reports_grow r;
        passed = passed_grow r;
        replied = replied_grow r;
      }
