-- The rows on ticks.
use Rattle.std.proofs.Common.{◌≡◌, ℕ, ◌+◌, ◌<◌, ◌≤◌, Bool, true, false, List, [], ◌∷◌, length, map, take, drop, refl, sym, ap, subst, ◌∙◌, arith, Some, min, ◌^◌}
use Rattle.std.specs.Prelude.{◌&&◌, nat_le, nat_lt, if◌then◌else◌, All, replicate}
use Rattle.std.proofs.lemmas.Bool.{and_parts, ltb-true}
use Rattle.std.proofs.lemmas.List.{get_or-set_same, length-replicate, length-set}
use Rattle.std.proofs.lemmas.List.Elements.{All-drop, All-nil, All-weaker}
use Rattle.r2_base.specs.Limits.{greatest_number}
use Rattle.hc_log.specs.declared.stored.Stored.{Stored}
use Rattle.hc_log.specs.Log.{last_term, stands_in}
use Rattle.hc_log.specs.Durable.{State}
use Rattle.hc_log.proofs.Formed.{IsFormed-from_steps}
use Rattle.hc_pool.specs.declared.request.Request.{Request}
use Rattle.hc_pool.specs.Pool.{most_pooled, IsPool}
use Rattle.hc_pool.proofs.Requests.{IsPool-remove}
use Rattle.hc_member.specs.declared.setup.Setup.{Setup}
use Rattle.hc_member.specs.declared.role.Role.{Role}
use Rattle.hc_member.specs.declared.role.Role.TheVariants.{Follower, Candidate, Leader}
use Rattle.hc_member.specs.Setup.{IsSetup, address_of, others, patience}
use Rattle.hc_member.specs.Member.{Member, durable_of}
use Rattle.hc_member.specs.Orders.{direct_order}
use Rattle.hc_member.specs.Outcome.{stays}
use Rattle.hc_member.specs.Sending.{Tell, IsSent}
use Rattle.hc_member.specs.Sound.{IsSound, IsStanding}
use Rattle.hc_member.specs.Ticks.{relieved, campaigns, is_impatient, ticked, waited, waits}
use Rattle.hc_member.specs.Votes.{is_elected, own_vote, stands, vote_request, vote_requests, wins}
use Rattle.hc_member.proofs.Goes.{Goes, goes-kept, goes-sends, goes-stays}
use Rattle.hc_member.proofs.ReportRows.{sent-direct}
use Rattle.hc_member.proofs.Sound.{sound-part, sound-waits}
use Rattle.hc_member.proofs.Sends.{last_term-most, own-fits, sent-each, sent-vote_request}
use Rattle.hc_member.proofs.VoteRows.{comes-wins, sound-wins, wins-parts}

-- a pool without its first request
rest-pool : (pool : List Request) → IsPool pool → IsPool (drop 1 pool)
rest-pool [] sound = sound
rest-pool (r ∷ rest) sound = IsPool-remove (r ∷ rest) 0 (omega arith) sound

relieved-pool : (b : Bool) (pool : List Request) → IsPool pool → IsPool (if b then drop 1 pool else pool)
relieved-pool true pool sound = rest-pool pool sound
relieved-pool false pool sound = sound

relieved-apart : (b : Bool) (log : List Stored) (pool : List Request) → All (λ (r : Request). stands_in r.rid log ≡ false) pool
    → All (λ (r : Request). stands_in r.rid log ≡ false) (if b then drop 1 pool else pool)
relieved-apart true log pool apart = All-drop (λ (r : Request). stands_in r.rid log ≡ false) 1 pool apart
relieved-apart false log pool apart = apart

module _ (s : Setup) (is : IsSetup s) where
  pub sound-waited : (m : Member) → IsSound s m → IsSound s (waited m)
  unfolding waited
  sound-waited m sound =
      sound-waits s m (relieved m.pool) m.unfinished m.pending (min (m.silent + 1) (2 ^ 31)) sound (relieved-pool (nat_le most_pooled (length m.pool)) m.pool sound.pool)
      (relieved-apart (nat_le most_pooled (length m.pool)) m.log m.pool sound.apart) sound.unfinished sound.batch

  pub waited-durable : (m : Member) → durable_of (waited m) ≡ durable_of m
  unfolding waited
  waited-durable m = refl

  waited-progress : (m : Member) → ((waited m).commit ≡ m.commit) × ((waited m).applied ≡ m.applied)
  unfolding waited
  waited-progress m = (refl, refl)

  pub impatient-low : (m : Member) → is_impatient s m ≡ true → (m.term < greatest_number) × (length m.log < greatest_number)
  impatient-low m e =
      let outer = and_parts (nat_le (patience s) m.silent && nat_lt m.term greatest_number) (nat_lt (length m.log) greatest_number) e in
      let inner = and_parts (nat_le (patience s) m.silent) (nat_lt m.term greatest_number) outer.0 in
      (ltb-true m.term greatest_number inner.1, ltb-true (length m.log) greatest_number outer.1)

  standing : (term last : ℕ) → 1 ≤ term → last < greatest_number → IsStanding s term last (own_vote s)
  standing term last set low =
      let members = replicate (length s.members) false in
      let size = length-replicate (length s.members) false in
      record {
        term_is_set = set;
        has_index = low;
        votes_each = length-set members s.me true ∙ size;
        votes_own = get_or-set_same members s.me true false (omega (arith, is.own, size));
      }

  -- a new candidate
  pub record Stood (m : Member) : Type 0 where
    pub sound : IsSound s (stands s m)
    pub stood : IsStanding s (stands s m).term (length (stands s m).log) (stands s m).votes
    pub log : (stands s m).log ≡ m.log
    pub term : (stands s m).term ≡ m.term + 1
    pub commit : (stands s m).commit ≡ m.commit
    pub applied : (stands s m).applied ≡ m.applied

  pub stood : (m : Member) → m.term < greatest_number → length m.log < greatest_number → IsSound s m → Stood m
  unfolding stands
  stood m low short sound =
      let valid = sound.durable in
      let stands_now = standing (m.term + 1) (length m.log) (omega arith) short in
      record {
        sound =
            sound-part s m (m.term + 1) (Some s.me) Candidate (own_vote s) 0 0 m.commit m.lead sound
            (record {
              term = omega (arith, low);
              vote = own-fits s is;
              unset = λ none. absurd (omega (arith, none));
              log = valid.log;
              terms = All-weaker (λ (x : Stored). x.entry.term ≤ m.term) (λ (x : Stored). x.entry.term ≤ m.term + 1) (λ x below. omega (arith, below)) m.log valid.terms;
            })
            (omega arith) sound.committed (omega arith) stands_now;
        stood = stands_now;
        log = refl;
        term = refl;
        commit = refl;
        applied = refl;
      }

  requests-sent : (m : Member) → IsSound s m → 1 ≤ m.term → All IsSent (vote_requests s m)
  requests-sent m sound set =
      let valid = sound.durable in
      let limits = (IsFormed-from_steps m.log valid.log).limits in
      sent-each (λ member. Tell (address_of s member) (vote_request s m)) (others s)
      (λ member. sent-vote_request (address_of s member) m.term s.me (length m.log) (last_term m.log) (record { least = set; most = valid.term }) (own-fits s is)
      limits.entries (last_term-most m.term m.log valid.terms))

  -- a campaign of a member that was this one before the tick
  campaign-by : (b : Bool) (old m : Member) → old.log ≡ m.log → old.term < m.term → m.commit ≡ old.commit → m.applied ≡ old.applied → IsSound s m → IsStanding s m.term (length m.log) m.votes
      → Goes s old (if b then stays old (wins s m) [] else stays old m (vote_requests s m))
  campaign-by true old m log term commit applied sound stands_now =
      let won = comes-wins s is m in
      let size = ap length log in
      let parts = wins-parts s is m in
      let higher = parts.0 in
      let committed = sound.committed in
      record {
        sound = sound-wins s is m sound stands_now;
        comes =
            record {
              term = omega (arith, term, higher);
              vote = λ same. absurd (omega (arith, same, term, higher));
              within = omega arith;
              front = subst (λ (l : List Stored). take (length l) l ≡ take (length l) (wins s m).log) (sym log) won.front;
              count = (let count = won.count in omega (arith, count, size));
              cut = λ less. absurd (omega (arith, less));
            };
        cut = λ less. absurd (omega (arith, less));
        commit = (let same = parts.1 in omega (arith, same, commit));
        stands = omega (arith, commit, committed, size);
        applied = parts.2 ∙ applied;
        sends = All-nil IsSent;
      }
  campaign-by false old m log term commit applied sound stands_now =
      goes-stays s old m (vote_requests s m) sound
      (record { log = sym log; term = omega (arith, term); vote = λ same. absurd (omega (arith, same, term)); commit = omega (arith, commit); applied = applied })
      (requests-sent m sound (omega (arith, term)))

  goes-campaigns : (old m : Member) → old.log ≡ m.log → old.term < m.term → m.commit ≡ old.commit → m.applied ≡ old.applied → IsSound s m → IsStanding s m.term (length m.log) m.votes → Goes s old (campaigns s old m)
  unfolding campaigns
  goes-campaigns old m log term commit applied sound stands_now = campaign-by (is_elected s m.votes) old m log term commit applied sound stands_now

  waits-by : (b : Bool) (m : Member) → is_impatient s (waited m) ≡ b → IsSound s m
      → Goes s m (if b then campaigns s m (stands s (waited m)) else stays m (waited m) [])
  waits-by true m e sound =
      let low = impatient-low (waited m) e in
      let same = waited-durable m in
      let new = stood (waited m) low.0 low.1 (sound-waited m sound) in
      let log : m.log ≡ (stands s (waited m)).log = sym (ap (λ (d : State). d.log) same) ∙ sym new.log in
      let term : m.term ≡ (waited m).term = sym (ap (λ (d : State). d.term) same) in
      let grown = new.term in
      let progress = waited-progress m in
      goes-campaigns m (stands s (waited m)) log (omega (arith, term, grown)) (new.commit ∙ progress.0) (new.applied ∙ progress.1) new.sound new.stood
  waits-by false m e sound = goes-kept s m (waited m) [] (sound-waited m sound) (waited-durable m) (let same = waited-progress m in omega (arith, same.0)) (waited-progress m).1 (All-nil IsSent)

  goes-waits : (m : Member) → IsSound s m → Goes s m (waits s m)
  unfolding waits
  goes-waits m sound = waits-by (is_impatient s (waited m)) m refl sound

  pub goes-ticked : (m : Member) (role : Role) → m.role ≡ role → IsSound s m → Goes s m (ticked s m role)
  unfolding ticked
  goes-ticked m Leader e sound =
      goes-sends s m (map (direct_order s m) (others s)) sound (sent-each (direct_order s m) (others s) (λ member. sent-direct s is m member sound e))
  goes-ticked m Follower e sound = goes-waits m sound
  goes-ticked m Candidate e sound = goes-waits m sound
