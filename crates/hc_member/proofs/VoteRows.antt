-- The rows on votes: a member asks, votes and wins, and stays sound.
use Rattle.std.proofs.Common.{◌≡◌, ◌≢◌, ℕ, ◌+◌, ◌<◌, ◌≤◌, ◌==◌, Bool, true, false, List, [], ◌∷◌, ◌++◌, length, get_or, Option, None, Some, refl, sym, ap, subst, ◌∙◌, inl, inr, arith}
use Rattle.std.specs.Prelude.{◌&&◌, nat_lt, if◌then◌else◌, map, slice_index_or, slice_set}
use Rattle.std.proofs.lemmas.Bool.{and_parts, cases_Bool, eq-eqb, eqb-true, ltb-true}
use Rattle.std.proofs.lemmas.List.{get_or-set_other, get_or-set_same, length-replicate, length-set, length_push}
use Rattle.std.proofs.lemmas.List.Elements.{All-map, All-nil, All-replicate}
use Rattle.hc_log.specs.Log.{blank_of}
use Rattle.hc_log.specs.Durable.{KeepsVote}
use Rattle.hc_message.specs.declared.msg.Msg.TheVariants.{Vote}
use Rattle.hc_message.specs.Entry.{IsMember, IsTerm}
use Rattle.hc_replier.proofs.Rows.{empty-row}
use Rattle.hc_replier.specs.Bounds.{most_bound}
use Rattle.hc_replier.specs.Queues.{Row, empty_row, new_queues}
use Rattle.hc_member.specs.declared.setup.Setup.{Setup}
use Rattle.hc_member.specs.declared.role.Role.{Role}
use Rattle.hc_member.specs.declared.role.Role.TheVariants.{Follower, Candidate, Leader}
use Rattle.hc_member.specs.Setup.{IsSetup, address_of}
use Rattle.hc_member.specs.Member.{Member, Lead, durable_of, is_candidate, is_follower}
use Rattle.hc_member.specs.Outcome.{stays}
use Rattle.hc_member.specs.Sending.{Tell, IsSent}
use Rattle.hc_member.specs.Sound.{IsInRole, IsLeading, IsQueue, IsSound, IsStanding}
use Rattle.hc_member.specs.Votes.{counts_vote, grants, hear_vote, hear_vote_request, is_elected, is_free_for, new_lead, reaches, rise_to, vote_sent, votes_on, wins, wins_if_elected, with_vote}
use Rattle.hc_member.proofs.Goes.{Comes, Goes, goes-by, goes-kept, goes-stays, keeps_vote}
use Rattle.hc_member.proofs.Grows.{blank-follows, front-push, stands-push, valid-push}
use Rattle.hc_member.proofs.Rises.{Rises, rises, rises-on}
use Rattle.hc_member.proofs.Sound.{sound-log, sound-part}
use Rattle.hc_member.proofs.Sends.{own-fits, sent-one, sent-vote}

-- a vote for a candidate keeps the vote
keeps-free : (old : Option ℕ) (candidate : ℕ) → is_free_for candidate old ≡ true → KeepsVote old (Some candidate)
keeps-free None candidate e = tt
keeps-free (Some other) candidate e = ap (λ (x : ℕ). Some x) (sym (eqb-true other candidate e))

module _ (s : Setup) (is : IsSetup s) where
  -- a member that votes
  sound-voted : (m : Member) (candidate : ℕ) → 1 ≤ m.term → IsMember candidate → IsSound s m → IsSound s (record m { vote = Some candidate; silent = 0 })
  sound-voted m candidate set fits sound =
      let valid = sound.durable in
      sound-part s m m.term (Some candidate) m.role m.votes m.matched 0 m.commit m.lead sound
      (record { term = valid.term; vote = fits; unset = λ none. absurd (omega (arith, none, set)); log = valid.log; terms = valid.terms })
      (omega arith) sound.committed sound.matched sound.role

  -- the answer to a candidate, of whose term the member heard
  goes-votes_on : (term : ℕ) (m n : Member) (candidate : ℕ) (granted : Bool) → Rises s term m n → 1 ≤ term → IsMember candidate
      → (granted ≡ true → is_free_for candidate n.vote ≡ true) → Goes s m (votes_on s n candidate granted)
  unfolding votes_on
  goes-votes_on term m n candidate true r set fits free =
      let is_set : 1 ≤ n.term = omega (arith, set, r.high) in
      let valid = (r.sound).durable in
      let answer : IsTerm n.term = record { least = is_set; most = valid.term } in
      goes-by s m n (record n { vote = Some candidate; silent = 0 }) (vote_sent s n candidate true) r.log (sound-voted n candidate is_set fits r.sound)
      (record {
        log = r.log;
        term = r.low;
        vote = λ same. subst (λ (v : Option ℕ). KeepsVote v (Some candidate)) (r.vote same) (keeps-free n.vote candidate (free refl));
        commit = (let commit = r.commit in omega (arith, commit));
        applied = r.applied;
      })
      (sent-one (Tell (address_of s candidate) (Vote n.term s.me true)) (sent-vote (address_of s candidate) n.term s.me true answer (own-fits s is)))
  goes-votes_on term m n candidate false r set fits free =
      let valid = (r.sound).durable in
      let answer : IsTerm n.term = record { least = omega (arith, set, r.high); most = valid.term } in
      goes-by s m n n (vote_sent s n candidate false) r.log r.sound (rises-on s term m n r)
      (sent-one (Tell (address_of s candidate) (Vote n.term s.me false)) (sent-vote (address_of s candidate) n.term s.me false answer (own-fits s is)))

  -- a member that hears of an earlier term
  same-rises : (term : ℕ) (m : Member) → term < m.term → IsSound s m → Rises s term m m
  same-rises term m lower sound = record { sound = sound; log = refl; commit = refl; applied = refl; low = omega arith; high = omega (arith, lower); vote = λ same. refl }

  request-by : (b : Bool) (m : Member) (term candidate last_index last_term_there : ℕ) → nat_lt term m.term ≡ b → IsTerm term → IsMember candidate → IsSound s m
      → Goes s m (if b then votes_on s m candidate false else votes_on s (rise_to term m) candidate (grants (rise_to term m) candidate last_index last_term_there))
  request-by true m term candidate last_index last_term_there e t fits sound =
      goes-votes_on term m m candidate false (same-rises term m (ltb-true term m.term e) sound) t.least fits (λ no. cc)
  request-by false m term candidate last_index last_term_there e t fits sound =
      let n = rise_to term m in
      goes-votes_on term m n candidate (grants n candidate last_index last_term_there) (rises s term m t sound) t.least fits
      (λ granted.
      let outer = and_parts (is_follower n.role && is_free_for candidate n.vote) (reaches n.log last_index last_term_there) granted in
      let inner = and_parts (is_follower n.role) (is_free_for candidate n.vote) outer.0 in
      inner.1)

  pub goes-hear_vote_request : (m : Member) (term candidate last_index last_term_there : ℕ) → IsTerm term → IsMember candidate → IsSound s m
      → Goes s m (hear_vote_request s m term candidate last_index last_term_there)
  unfolding hear_vote_request
  goes-hear_vote_request m term candidate last_index last_term_there t fits sound =
      request-by (nat_lt term m.term) m term candidate last_index last_term_there refl t fits sound

  -- a vote more: that of the member itself still counts
  own-counts : (votes : List Bool) (voter : ℕ) → length votes ≡ length s.members → slice_index_or votes s.me false ≡ true
      → slice_index_or (slice_set votes voter true) s.me false ≡ true
  own-counts votes voter each own =
      elim (cases_Bool (voter == s.me)) [
        | inl same ↦
            let at : voter ≡ s.me = eqb-true voter s.me same in
            subst (λ (v : ℕ). slice_index_or (slice_set votes v true) s.me false ≡ true) (sym at) (get_or-set_same votes s.me true false (omega (arith, each, is.own)))
        | inr other ↦
            let apart : s.me ≢ voter = λ e. (let same = eq-eqb voter s.me (sym e) in let both : true ≡ false = sym same ∙ other in cc) in
            get_or-set_other votes voter s.me true false apart ∙ own
      ]

  voted-in_role : (role : Role) (term last voter : ℕ) (votes : List Bool) (lead : Lead) → is_candidate role ≡ true → IsInRole s term last votes lead role
      → IsStanding s term last (slice_set votes voter true)
  voted-in_role Follower term last voter votes lead e in_role = cc
  voted-in_role Leader term last voter votes lead e in_role = cc
  voted-in_role Candidate term last voter votes lead e in_role =
      record {
        term_is_set = in_role.term_is_set;
        has_index = in_role.has_index;
        votes_each = length-set votes voter true ∙ in_role.votes_each;
        votes_own = own-counts votes voter in_role.votes_each in_role.votes_own;
      }

  empty-queue : (last bound : ℕ) → bound ≤ most_bound → IsQueue last (empty_row bound)
  empty-queue last bound fits = record { bounded = empty-row bound fits; ordered = All-nil (λ (index : ℕ). index ≤ last) }

  -- what a new leader keeps
  leads-new : (term start : ℕ) → 1 ≤ term → 1 ≤ start → IsLeading s term start (new_lead s start)
  leads-new term start set low =
      let members = length s.members in
      let each = (is.bounds).each in
      record {
        term_is_set = set;
        start_low = low;
        start_high = omega arith;
        reached_each = length-replicate members 0;
        next_each = length-replicate members start;
        reached = All-replicate (λ (index : ℕ). index ≤ start) members 0 (omega arith);
        next_low = All-replicate (λ (index : ℕ). 1 ≤ index) members start low;
        next_high = All-replicate (λ (index : ℕ). index ≤ start + 1) members start (omega arith);
        bounds = bounds-of s.bounds;
        queues = All-map (IsQueue start) empty_row s.bounds (λ k d inside. empty-queue start (get_or s.bounds k d) (each k d inside));
      }
    where
      bounds-of : (bounds : List ℕ) → map (λ (row : Row). row.bound) (new_queues bounds) ≡ bounds
      bounds-of [] = refl
      bounds-of (b ∷ bounds) = ap (λ (bs : List ℕ). b ∷ bs) (bounds-of bounds)

  -- a candidate wins
  pub sound-wins : (m : Member) → IsSound s m → IsStanding s m.term (length m.log) m.votes → IsSound s (wins s m)
  unfolding wins
  sound-wins m sound stands =
      let d = durable_of m in
      let blank = blank_of m.term in
      let long = length_push m.log blank in
      let batch = sound.batch in
      let committed = sound.committed in
      sound-log s m (length m.log) (m.log ++ blank ∷ []) m.pool Leader (length m.log + 1) m.commit (new_lead s (length m.log + 1)) sound
      (omega (arith, batch, committed)) (front-push m.log blank)
      (valid-push d blank sound.durable (blank-follows d sound.durable stands.term_is_set stands.has_index) (omega arith)) sound.pool
      (λ k r inside. stands-push (get_or m.pool k r).rid m.log blank (sound.apart k r inside) refl) (omega arith) (omega (arith, committed, long)) (omega (arith, long))
      (subst (λ (last : ℕ). IsLeading s m.term last (new_lead s (length m.log + 1))) (sym long)
      (leads-new m.term (length m.log + 1) stands.term_is_set (omega arith)))

  -- the durable state of a winner
  pub comes-wins : (m : Member) → Comes (durable_of m) (durable_of (wins s m)) (length m.log)
  unfolding wins
  comes-wins m =
      record {
        term = omega arith;
        vote = λ same. keeps_vote m.vote m.vote refl;
        within = omega arith;
        front = front-push m.log (blank_of m.term);
        count = omega (arith, length_push m.log (blank_of m.term));
        cut = λ less. absurd (omega (arith, less));
      }

  -- a winner keeps its term and what is committed and applied
  pub wins-parts : (m : Member) → ((wins s m).term ≡ m.term) × ((wins s m).commit ≡ m.commit) × ((wins s m).applied ≡ m.applied)
  unfolding wins
  wins-parts m = (refl, refl, refl)

  -- a candidate with other votes
  sound-with_votes : (m : Member) (votes : List Bool) → IsSound s m → m.role ≡ Candidate → IsStanding s m.term (length m.log) votes
      → IsSound s (record m { votes = votes })
  sound-with_votes m votes sound role stands =
      sound-part s m m.term m.vote m.role votes m.matched m.silent m.commit m.lead sound sound.durable (omega arith) sound.committed sound.matched
      (subst (IsInRole s m.term (length m.log) votes m.lead) (sym role) stands)

  -- a member whose votes alone changed, and who wins where they are enough
  goes-wins : (b : Bool) (m : Member) (votes : List Bool) → IsSound s m → m.role ≡ Candidate → IsStanding s m.term (length m.log) votes
      → Goes s m (stays m (if b then wins s (record m { votes = votes }) else record m { votes = votes }) [])
  goes-wins true m votes sound role stands =
      let parts = wins-parts (record m { votes = votes }) in
      let committed = sound.committed in
      record {
        sound = sound-wins (record m { votes = votes }) (sound-with_votes m votes sound role stands) stands;
        comes = comes-wins (record m { votes = votes });
        cut = λ less. absurd (omega (arith, less));
        commit = (let same = parts.1 in omega (arith, same));
        stands = committed;
        applied = parts.2;
        sends = All-nil IsSent;
      }
  goes-wins false m votes sound role stands = goes-kept s m (record m { votes = votes }) [] (sound-with_votes m votes sound role stands) refl (omega arith) refl (All-nil IsSent)

  vote-by : (b : Bool) (m : Member) (term voter : ℕ) (granted : Bool) → counts_vote m term granted ≡ b → IsTerm term → IsSound s m
      → Goes s m (if b then stays m (wins_if_elected s (with_vote m voter)) [] else stays m (rise_to term m) [])
  vote-by true m term voter granted e t sound =
      let outer = and_parts (granted && is_candidate m.role) (m.term == term) e in
      let inner = and_parts granted (is_candidate m.role) outer.0 in
      let votes = slice_set m.votes voter true in
      goes-wins (is_elected s votes) m votes sound (candidate-is m.role inner.1) (voted-in_role m.role m.term (length m.log) voter m.votes m.lead inner.1 sound.role)
    where
      candidate-is : (role : Role) → is_candidate role ≡ true → role ≡ Candidate
      candidate-is Follower e = cc
      candidate-is Candidate e = refl
      candidate-is Leader e = cc
  vote-by false m term voter granted e t sound =
      let r = rises s term m t sound in
      goes-stays s m (rise_to term m) [] r.sound (rises-on s term m (rise_to term m) r) (All-nil IsSent)

  pub goes-hear_vote : (m : Member) (term voter : ℕ) (granted : Bool) → IsTerm term → IsSound s m → Goes s m (hear_vote s m term voter granted)
  unfolding hear_vote
  goes-hear_vote m term voter granted t sound = vote-by (counts_vote m term granted) m term voter granted refl t sound
