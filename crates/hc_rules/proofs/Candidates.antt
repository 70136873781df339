-- Requests for votes, and which logs were voted for.
use Rattle.std.proofs.Common.{◌≡◌, ℕ, suc, ◌⊎◌, inl, inr, length, Option, Some, refl, sym, ap, subst, arith}
use Rattle.r2_base.specs.declared.entry.Entry.{Entry}
use Rattle.hc_rules.specs.Log.{IsNotAhead, last_term}
use Rattle.hc_rules.specs.Message.{VoteRequest, Grant}
use Rattle.hc_rules.specs.Rules.{Rule, Stand, AskVotes, GrantVote, after, grant_of}
use Rattle.hc_rules.specs.Conditions.{Allowed}
use Rattle.hc_rules.specs.Protocol.{ProtocolState}
use Rattle.hc_rules.specs.Kept.{Kept}
use Rattle.hc_rules.specs.Kept.{VoteRequestsTellLogs, VotersAreBehind, TellsItsLog, IsBehindItsCandidate}
use Rattle.hc_rules.proofs.Grows.{grows}
use Rattle.hc_rules.proofs.Puts.{in_more}
use Rattle.hc_rules.proofs.Votes.{Added, own_new, with_grant-from}

tells_grows : (granted x : ℕ → ℕ → Option Grant) → ((t v : ℕ) (g : Grant) → granted t v ≡ Some g → x t v ≡ Some g) → (q : VoteRequest) → TellsItsLog granted q → TellsItsLog x q
tells_grows granted x grow q h =
    record { grant = h.grant; given = grow q.term q.candidate h.grant h.given; own = h.own; index = h.index; last = h.last }

behind_grows : (granted x : ℕ → ℕ → Option Grant) → ((t v : ℕ) (g : Grant) → granted t v ≡ Some g → x t v ≡ Some g) → (t : ℕ) (g : Grant) → IsBehindItsCandidate granted t g → IsBehindItsCandidate x t g
behind_grows granted x grow t g h =
    record { theirs = h.theirs; given = grow t g.candidate h.theirs h.given; own = h.own; behind = h.behind }

module _ (w : ProtocolState) (k : Kept w) where
  pub vote_requests_tell_logs : (r : Rule) → Allowed w r → VoteRequestsTellLogs (after w r)
  vote_requests_tell_logs (AskVotes x) a =
      let mine = k.votes.candidates_voted_for_themselves x a.competes in
      in_more
      w.vote_requests
      (record { grant = mine.grant; given = mine.given; own = mine.own; index = sym (ap (length {A = Entry}) mine.same); last = sym (ap last_term mine.same) })
      k.votes.vote_requests_tell_logs
  vote_requests_tell_logs (Stand x) a = λ q h. tells_grows w.granted (after w (Stand x)).granted (grows w k (Stand x) a).grants q (k.votes.vote_requests_tell_logs q h)
  vote_requests_tell_logs (GrantVote x y) a = λ q h. tells_grows w.granted (after w (GrantVote x y)).granted (grows w k (GrantVote x y) a).grants q (k.votes.vote_requests_tell_logs q h)
  vote_requests_tell_logs r a = k.votes.vote_requests_tell_logs

  pub voters_are_behind : (r : Rule) → Allowed w r → VotersAreBehind (after w r)
  voters_are_behind (Stand x) a = λ t v g e. by t v g (with_grant-from w.granted (suc (w.term x)) x (grant_of w (suc (w.term x)) x x) t v g e)
    where
      by : (t v : ℕ) (g : Grant) → (w.granted t v ≡ Some g) ⊎ Added w.granted (suc (w.term x)) x (grant_of w (suc (w.term x)) x x) t v g
          → IsBehindItsCandidate (after w (Stand x)).granted t g
      by t v g (inl e) = behind_grows w.granted (after w (Stand x)).granted (grows w k (Stand x) a).grants t g (k.votes.voters_are_behind t v g e)
      by t v g (inr e) =
          subst
          (λ (s : ℕ). IsBehindItsCandidate (after w (Stand x)).granted s g)
          (sym e.term)
          (subst
          (λ (y : Grant). IsBehindItsCandidate (after w (Stand x)).granted (suc (w.term x)) y)
          (sym e.is)
          (record { theirs = grant_of w (suc (w.term x)) x x; given = own_new w k x; own = refl; behind = inr (refl, omega arith) }))
  voters_are_behind (GrantVote x q) a = λ t v g e. by t v g (with_grant-from w.granted (w.term x) x (grant_of w (w.term x) x q.candidate) t v g e)
    where
      grow : (t v : ℕ) (g : Grant) → w.granted t v ≡ Some g → (after w (GrantVote x q)).granted t v ≡ Some g
      grow = (grows w k (GrantVote x q) a).grants

      added : IsBehindItsCandidate (after w (GrantVote x q)).granted (w.term x) (grant_of w (w.term x) x q.candidate)
      added =
          let told = k.votes.vote_requests_tell_logs q a.sent in
          let given = subst (λ (s : ℕ). w.granted s q.candidate ≡ Some told.grant) a.current told.given in
          let recent = subst (λ (n : ℕ). IsNotAhead (last_term (w.log x)) (length (w.log x)) n q.last_index) told.last a.recent in
          record {
            theirs = told.grant;
            given = grow (w.term x) q.candidate told.grant given;
            own = told.own;
            behind = subst (λ (n : ℕ). IsNotAhead (last_term (w.log x)) (length (w.log x)) (last_term told.grant.log) n) told.index recent;
          }

      by : (t v : ℕ) (g : Grant) → (w.granted t v ≡ Some g) ⊎ Added w.granted (w.term x) x (grant_of w (w.term x) x q.candidate) t v g
          → IsBehindItsCandidate (after w (GrantVote x q)).granted t g
      by t v g (inl e) = behind_grows w.granted (after w (GrantVote x q)).granted grow t g (k.votes.voters_are_behind t v g e)
      by t v g (inr e) =
          subst
          (λ (s : ℕ). IsBehindItsCandidate (after w (GrantVote x q)).granted s g)
          (sym e.term)
          (subst (λ (y : Grant). IsBehindItsCandidate (after w (GrantVote x q)).granted (w.term x) y) (sym e.is) added)
  voters_are_behind r a = k.votes.voters_are_behind
