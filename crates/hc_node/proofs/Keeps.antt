-- The rows that leave the whole log, and those that send nothing.
use Rattle.std.proofs.Common.{◌≡◌, ℕ, Bool, true, false, List, [], ◌∷◌, ◌++◌, length, None, refl, ap, ◌∙◌}
use Rattle.std.specs.Prelude.{if◌then◌else◌, nat_lt, ◌==◌, ◌&&◌, ◌||◌, not, max, min}
use Rattle.r2_base.specs.declared.rid.Rid.{Rid}
use Rattle.r2_base.specs.declared.entry.Kind.{Kind}
use Rattle.r2_frag.specs.Kept.{newest}
use Rattle.hc_log.specs.Log.{stands_in}
use Rattle.hc_pool.specs.declared.request.Request.{Request}
use Rattle.hc_pool.specs.Pool.{waits_in}
use Rattle.hc_member.specs.declared.setup.Setup.{Setup}
use Rattle.hc_member.specs.declared.role.Role.{Role}
use Rattle.hc_member.specs.declared.role.Role.TheVariants.{Follower, Candidate, Leader}
use Rattle.hc_member.specs.Bodies.{answered_again, give_body, hear_request, pooled, take_body}
use Rattle.hc_member.specs.Member.{Member, is_candidate, leads}
use Rattle.hc_member.specs.Orders.{direct_order}
use Rattle.hc_member.specs.Outcome.{stays}
use Rattle.hc_member.specs.Reports.{hear_ack, hear_commit, hear_nack, turned_back}
use Rattle.hc_member.specs.Sending.{Sending}
use Rattle.hc_member.specs.Ticks.{campaigns, is_impatient, ticked, waited, waits}
use Rattle.hc_member.specs.Votes.{counts_vote, grants, hear_vote, hear_vote_request, is_elected, rise_to, stands, vote_requests, votes_on, wins, wins_if_elected, with_vote}

-- whichever way is gone, the whole log is left
either-keeps : (b : Bool) (m n k : Member) (xs ys : List Sending) → (if b then stays m n xs else stays m k ys).keep ≡ length m.log
either-keeps true m n k xs ys = refl
either-keeps false m n k xs ys = refl

-- whichever way is gone, nothing is sent
neither-sends : (b : Bool) (m n k : Member) → (if b then stays m n [] else stays m k []).sends ≡ []
neither-sends true m n k = refl
neither-sends false m n k = refl

-- a member that rises keeps its log
pub log-rise_to : (term : ℕ) (m : Member) → (rise_to term m).log ≡ m.log
unfolding rise_to
log-rise_to term m = by (nat_lt m.term term)
  where
    by : (b : Bool) → (if b then record m { term = term; vote = None; role = Follower; votes = []; matched = 0 } else m).log ≡ m.log
    by true = refl
    by false = refl

keeps-votes_on : (s : Setup) (m : Member) (candidate : ℕ) (granted : Bool) → (votes_on s m candidate granted).keep ≡ length m.log
unfolding votes_on
keeps-votes_on s m candidate true = refl
keeps-votes_on s m candidate false = refl

pub keeps-hear_vote_request : (s : Setup) (m : Member) (term candidate last_index last_term : ℕ)
    → (hear_vote_request s m term candidate last_index last_term).keep ≡ length m.log
unfolding hear_vote_request
keeps-hear_vote_request s m term candidate last_index last_term = by (nat_lt term m.term)
  where
    by : (b : Bool)
        → (if b then votes_on s m candidate false else votes_on s (rise_to term m) candidate (grants (rise_to term m) candidate last_index last_term)).keep ≡ length m.log
    by true = keeps-votes_on s m candidate false
    by false = keeps-votes_on s (rise_to term m) candidate (grants (rise_to term m) candidate last_index last_term) ∙ ap length (log-rise_to term m)

pub keeps-hear_vote : (s : Setup) (m : Member) (term voter : ℕ) (granted : Bool) → (hear_vote s m term voter granted).keep ≡ length m.log
unfolding hear_vote
keeps-hear_vote s m term voter granted = either-keeps (counts_vote m term granted) m (wins_if_elected s (with_vote m voter)) (rise_to term m) [] []

pub quiet-hear_vote : (s : Setup) (m : Member) (term voter : ℕ) (granted : Bool) → (hear_vote s m term voter granted).sends ≡ []
unfolding hear_vote
quiet-hear_vote s m term voter granted = neither-sends (counts_vote m term granted) m (wins_if_elected s (with_vote m voter)) (rise_to term m)

pub keeps-hear_ack : (m : Member) (term member index applied : ℕ) → (hear_ack m term member index applied).keep ≡ length m.log
unfolding hear_ack
keeps-hear_ack m term member index applied = refl

pub quiet-hear_ack : (m : Member) (term member index applied : ℕ) → (hear_ack m term member index applied).sends ≡ []
unfolding hear_ack
quiet-hear_ack m term member index applied = refl

pub keeps-hear_nack : (s : Setup) (m : Member) (term member hint : ℕ) → (hear_nack s m term member hint).keep ≡ length m.log
unfolding hear_nack
keeps-hear_nack s m term member hint =
    either-keeps (leads term m) m (turned_back m member hint) (rise_to term m) (direct_order s (turned_back m member hint) member ∷ []) []

pub keeps-hear_commit : (m : Member) (term index : ℕ) → (hear_commit m term index).keep ≡ length m.log
unfolding hear_commit
keeps-hear_commit m term index =
    either-keeps ((m.term == term) && not (is_candidate m.role)) m (record m { commit = max m.commit (min index m.matched) }) m [] []

pub quiet-hear_commit : (m : Member) (term index : ℕ) → (hear_commit m term index).sends ≡ []
unfolding hear_commit
quiet-hear_commit m term index =
    neither-sends ((m.term == term) && not (is_candidate m.role)) m (record m { commit = max m.commit (min index m.matched) }) m

pub keeps-hear_request : (m : Member) (r : Request) → (hear_request m r).keep ≡ length m.log
unfolding hear_request
keeps-hear_request m r = either-keeps (stands_in r.rid m.log) m m (pooled m r) (answered_again (newest r.rid m.kept)) []

pub keeps-give_body : (s : Setup) (m : Member) (member : ℕ) (rid : Rid) → (give_body s m member rid).keep ≡ length m.log
unfolding give_body
keeps-give_body s m member rid = refl

pub keeps-take_body : (m : Member) (rid : Rid) (kind : Kind) (body : List ℕ) → (take_body m rid kind body).keep ≡ length m.log
unfolding take_body
keeps-take_body m rid kind body =
    either-keeps (stands_in rid m.log || waits_in rid m.pool) m m (record m { pool = m.pool ++ record { rid = rid; kind = kind; body = body } ∷ [] }) [] []

pub quiet-take_body : (m : Member) (rid : Rid) (kind : Kind) (body : List ℕ) → (take_body m rid kind body).sends ≡ []
unfolding take_body
quiet-take_body m rid kind body =
    neither-sends (stands_in rid m.log || waits_in rid m.pool) m m (record m { pool = m.pool ++ record { rid = rid; kind = kind; body = body } ∷ [] })

keeps-campaigns : (s : Setup) (old m : Member) → (campaigns s old m).keep ≡ length old.log
unfolding campaigns
keeps-campaigns s old m = either-keeps (is_elected s m.votes) old (wins s m) m [] (vote_requests s m)

keeps-waits : (s : Setup) (m : Member) → (waits s m).keep ≡ length m.log
unfolding waits
keeps-waits s m = by (is_impatient s (waited m))
  where
    by : (b : Bool) → (if b then campaigns s m (stands s (waited m)) else stays m (waited m) []).keep ≡ length m.log
    by true = keeps-campaigns s m (stands s (waited m))
    by false = refl

pub keeps-ticked : (s : Setup) (m : Member) (role : Role) → (ticked s m role).keep ≡ length m.log
unfolding ticked
keeps-ticked s m Leader = refl
keeps-ticked s m Follower = keeps-waits s m
keeps-ticked s m Candidate = keeps-waits s m
