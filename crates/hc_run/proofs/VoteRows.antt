-- The rows of requests for votes, and of votes.
use Rattle.std.proofs.Common.{◌≡◌, ℕ, ◌<◌, ◌≤◌, ◌==◌, ◌&&◌, ◌||◌, Bool, true, false, List, [], ◌∷◌, length, Option, None, Some, refl, sym, ap, subst, ◌∙◌, arith, inl, inr, ◌⊎◌}
use Rattle.std.specs.Prelude.{nat_lt, nat_le, if◌then◌else◌}
use Rattle.std.proofs.lemmas.Bool.{and_parts, eqb-true, leb-true, ltb-true, ltb-false}
use Rattle.std.proofs.lemmas.List.Elements.{All-cons, All-nil}
use Rattle.r2_base.specs.declared.addr.Addr.{Addr}
use Rattle.hc_log.specs.declared.stored.Stored.{Stored}
use Rattle.hc_log.specs.Log.{last_term, metas_of}
use Rattle.hc_message.specs.declared.msg.Msg.TheVariants.{VoteReq, Vote}
use Rattle.hc_member.specs.declared.setup.Setup.{Setup}
use Rattle.hc_member.specs.declared.heard.Heard.TheVariants.{Told}
use Rattle.hc_member.specs.declared.role.Role.{Role as MemberRole}
use Rattle.hc_member.specs.declared.role.Role.TheVariants as member
use Rattle.hc_member.specs.Member.{Member, is_candidate, is_follower}
use Rattle.hc_member.specs.Outcome.{stays}
use Rattle.hc_member.specs.Sending.{Tell}
use Rattle.hc_member.specs.Setup.{IsSetup, address_of, is_from_member, own_address}
use Rattle.hc_member.specs.Sound.{IsInRole, IsSound}
use Rattle.hc_member.specs.Turn.{row}
use Rattle.hc_member.specs.Votes.{counts_vote, grants, hear_vote, hear_vote_request, is_free_for, reaches, rise_to, vote_sent, votes_on, wins_if_elected, with_vote}
use Rattle.hc_member.proofs.Rows.{goes-row}
use Rattle.hc_rules.specs.Conditions.{MayCount}
use Rattle.hc_rules.specs.Log.{In, IsNotAhead}
use Rattle.hc_rules.specs.Log as world
use Rattle.hc_rules.specs.Message.{VoteRequest}
use Rattle.hc_rules.specs.Protocol.{ProtocolState}
use Rattle.hc_rules.specs.Rules.{CountVote, GrantVote, Refuse, SendVote, after, vote_of}
use Rattle.hc_rules.proofs.Puts.{put_same}
use Rattle.hc_run.specs.Backed.{IsBacked, IsSentAs}
use Rattle.hc_run.specs.Rows.{HearsSent, RowIsRules}
use Rattle.hc_run.proofs.Common.{by-fits, holds-on, led-candidate, led-follower}
use Rattle.hc_run.proofs.Elections.{elects, one-address, tie-count}
use Rattle.hc_rules.proofs.Steps.{steps_keep}
use Rattle.std.proofs.lemmas.List.{length-set}
use Rattle.hc_run.proofs.Metas.{last-metas, length-metas}
use Rattle.hc_run.proofs.Senders.{sender-inside}
use Rattle.hc_run.proofs.Ties.{tie-vote}
use Rattle.hc_run.proofs.Ways.{IsLike, IsWay, acts, like_of, rises, row-of, way-end, way-first}

-- Requests for votes --

-- a member refuses its vote
pub refuses-vote : (s : Setup) (w : ProtocolState) (m old : Member) (to : Addr) → IsSetup s → IsLike s w m
    → IsWay s w (stays old m (Tell to (Vote m.term s.me false) ∷ [])) w.passed w.reports
refuses-vote s w m old to is like =
    let tied = like.tied in
    let v = after w (Refuse s.me) in
    let o = stays old m (Tell to (Vote m.term s.me false) ∷ []) in
    way-first s w o w.passed w.reports (Refuse s.me) refl (acts s w m is like)
    (way-end s v o (record { group = record { size = like.group.size; bound = like.group.bound }; tied = like.tied; holds = like.holds })
    (All-cons (IsBacked s v) (Tell to (Vote m.term s.me false)) [] (inl (rw tied.term refl)) (All-nil (IsBacked s v))))

follower-is : (r : MemberRole) → is_follower r ≡ true → r ≡ member.Follower
follower-is member.Follower e = refl
follower-is member.Candidate e = absurd cc
follower-is member.Leader e = absurd cc

free-is : (candidate : ℕ) (vote : Option ℕ) → is_free_for candidate vote ≡ true → (vote ≡ None) ⊎ (vote ≡ Some candidate)
free-is candidate None e = inl refl
free-is candidate (Some other) e = inr (ap (λ (c : ℕ). Some c) (eqb-true other candidate e))

ahead-by : (below same : Bool) (term index that_term that_index : ℕ) → (below ≡ true → term < that_term) → (same ≡ true → (term ≡ that_term) × (index ≤ that_index))
    → (below || same) ≡ true → IsNotAhead term index that_term that_index
ahead-by true same term index that_term that_index h k e = inl (h refl)
ahead-by false true term index that_term that_index h k e = inr (k refl)
ahead-by false false term index that_term that_index h k e = absurd cc

recent-is : (log : List Stored) (last_index that_term : ℕ) → reaches log last_index that_term ≡ true
    → IsNotAhead (world.last_term (metas_of log)) (length (metas_of log)) that_term last_index
recent-is log last_index that_term e =
    rw (last-metas log, length-metas log)
    (ahead-by (nat_lt (last_term log) that_term) (last_term log == that_term && nat_le (length log) last_index) (last_term log) (length log) that_term last_index
    (λ h. ltb-true (last_term log) that_term h)
    (λ h. let both = and_parts (last_term log == that_term) (nat_le (length log) last_index) h in (eqb-true (last_term log) that_term both.0, leb-true (length log) last_index both.1))
    e)

-- a member grants its vote
grants-vote : (s : Setup) (w : ProtocolState) (m : Member) (candidate last_index last_term_there term : ℕ) → IsSetup s → IsLike s w m → candidate < length s.members
    → In (record { term = term; candidate = candidate; last_index = last_index; last_term = last_term_there }) w.vote_requests → term ≡ m.term
    → grants m candidate last_index last_term_there ≡ true
    → IsWay s w (stays m (record m { vote = Some candidate; silent = 0 }) (vote_sent s m candidate true)) w.passed w.reports
grants-vote s w m candidate last_index last_term_there term is like inside sent current granted =
    let outer = and_parts (is_follower m.role && is_free_for candidate m.vote) (reaches m.log last_index last_term_there) granted in
    let inner = and_parts (is_follower m.role) (is_free_for candidate m.vote) outer.0 in
    let follows = follower-is m.role inner.0 in
    let tied = like.tied in
    let q : VoteRequest = record { term = term; candidate = candidate; last_index = last_index; last_term = last_term_there } in
    let v = after w (GrantVote s.me q) in
    let u = after v (SendVote s.me candidate) in
    let n : Member = record m { vote = Some candidate; silent = 0 } in
    let o = stays m n (vote_sent s m candidate true) in
    let acting = acts s w m is like in
    way-first s w o w.passed w.reports (GrantVote s.me q) refl
    (record {
      acts = acting;
      follows = rw (tied.role, follows) refl;
      sent = sent;
      current = rw tied.term current;
      free = rw tied.vote (free-is candidate m.vote inner.1);
      recent = rw tied.log (recent-is m.log last_index last_term_there outer.1);
    })
    (way-first s v o w.passed w.reports (SendVote s.me candidate) refl
    (record { acts = record { member = acting.member; runs = acting.runs }; voted = put_same w.vote s.me (Some candidate) })
    (way-end s u o
    (record {
      group = record { size = like.group.size; bound = like.group.bound };
      tied = tie-vote w s.me m like.tied q candidate 0 refl follows;
      holds = holds-on w.table w.replied w.replied w.reports w.reports s.me m n like.holds refl refl refl refl (λ r there. there) (led-follower w.reports s.me n follows);
    })
    (All-cons (IsBacked s u) (Tell (address_of s candidate) (Vote m.term s.me true)) []
    (record { candidate = candidate; member = inside; to_it = refl; sent = inl (ap (λ (t : ℕ). vote_of t s.me candidate) (sym tied.term)) })
    (All-nil (IsBacked s u)))))

-- a member of the candidate's term votes
votes-way : (s : Setup) (w : ProtocolState) (m : Member) (candidate last_index last_term_there term : ℕ) (b : Bool) → IsSetup s → IsLike s w m → candidate < length s.members
    → In (record { term = term; candidate = candidate; last_index = last_index; last_term = last_term_there }) w.vote_requests → term ≡ m.term
    → grants m candidate last_index last_term_there ≡ b → IsWay s w (votes_on s m candidate b) w.passed w.reports
unfolding votes_on
votes-way s w m candidate last_index last_term_there term true is like inside sent current e =
    grants-vote s w m candidate last_index last_term_there term is like inside sent current e
votes-way s w m candidate last_index last_term_there term false is like inside sent current e =
    refuses-vote s w m m (address_of s candidate) is like

-- the term that a member rose to
pub risen-term : (term : ℕ) (m : Member) → nat_lt term m.term ≡ false → term ≡ (rise_to term m).term
unfolding rise_to
risen-term term m e = by (nat_lt m.term term) refl
  where
    by : (b : Bool) → nat_lt m.term term ≡ b → term ≡ (if b then record m { term = term; vote = None; role = member.Follower; votes = []; matched = 0 } else m).term
    by true f = refl
    by false f = let high = ltb-false term m.term e in let low = ltb-false m.term term f in omega (arith, high, low)

module _ (s : Setup) (w : ProtocolState) (m : Member) (from : Addr) (term candidate last_index last_term_there : ℕ) (h : HearsSent s w m (Told from (VoteReq term candidate last_index last_term_there))) where
  asked-way : (b : Bool) → nat_lt term m.term ≡ b → candidate < length s.members
      → IsWay s w (if b then votes_on s m candidate false else votes_on s (rise_to term m) candidate (grants (rise_to term m) candidate last_index last_term_there)) w.passed w.reports
  unfolding votes_on
  asked-way true e inside = refuses-vote s w m m (address_of s candidate) h.setup (like_of s w m h.shown)
  asked-way false e inside =
      let n = rise_to term m in
      rises s w m term (votes_on s n candidate (grants n candidate last_index last_term_there)) h.setup h.kept (like_of s w m h.shown)
      (λ v same kept like.
      votes-way s v n candidate last_index last_term_there term (grants n candidate last_index last_term_there) h.setup like inside
      (rw same.vote_requests h.sent) (risen-term term m e) refl)

pub vote_request_rows : (from : Addr) (term candidate last_index last_term : ℕ) → RowIsRules (Told from (VoteReq term candidate last_index last_term))
unfolding row hear_vote_request
vote_request_rows from term candidate last_index last_term s w m h =
    let said = Told from (VoteReq term candidate last_index last_term) in
    let goes = goes-row s h.setup m said h.sayable h.shown.sound in
    by-fits s w m said h (hear_vote_request s m term candidate last_index last_term) (is_from_member s from candidate) goes.sound
    (λ fits sound.
    row-of s w m said (hear_vote_request s m term candidate last_index last_term) sound
    (asked-way s w m from term candidate last_index last_term h (nat_lt term m.term) refl (sender-inside s from candidate fits)))
    (λ e. refl)

-- Votes --

candidate-is : (r : MemberRole) → is_candidate r ≡ true → r ≡ member.Candidate
candidate-is member.Candidate e = refl
candidate-is member.Follower e = absurd cc
candidate-is member.Leader e = absurd cc

-- a vote that goes to a member is for it
vote-for : (s : Setup) (w : ProtocolState) (term voter : ℕ) (granted : Bool) → IsSetup s → granted ≡ true
    → IsSentAs s.members w (own_address s) (Vote term voter granted) → In (vote_of term voter s.me) w.votes
vote-for s w term voter true is e sent =
    let same : sent.candidate ≡ s.me = one-address s sent.candidate s.me is sent.member is.own (sym sent.to_it) in
    subst (λ (c : ℕ). In (vote_of term voter c) w.votes) same sent.sent
vote-for s w term voter false is e sent = absurd cc

standing : (s : Setup) (m : Member) → IsSound s m → m.role ≡ member.Candidate → length m.votes ≡ length s.members
standing s m sound e =
    let in_role = subst (λ (r : MemberRole). IsInRole s m.term (length m.log) m.votes m.lead r) e sound.role in
    in_role.votes_each

module _ (s : Setup) (w : ProtocolState) (m : Member) (from : Addr) (term voter : ℕ) (granted : Bool) (h : HearsSent s w m (Told from (Vote term voter granted))) where
  counts-way : counts_vote m term granted ≡ true → voter < length s.members
      → IsWay s w (stays m (wins_if_elected s (with_vote m voter)) []) w.passed w.reports
  counts-way e inside =
      let outer = and_parts (granted && is_candidate m.role) (m.term == term) e in
      let inner = and_parts granted (is_candidate m.role) outer.0 in
      let stands = candidate-is m.role inner.1 in
      let shown = h.shown in
      let like = like_of s w m shown in
      let tied = shown.tied in
      let each = standing s m shown.sound stands in
      let n = with_vote m voter in
      let o = stays m (wins_if_elected s n) [] in
      let current : term ≡ w.term s.me = sym (tied.term ∙ eqb-true m.term term outer.1) in
      let may : MayCount w s.me voter =
      record {
        competes = record { acts = acts s w m h.setup like; competes = rw (tied.role, stands) refl };
        sent = subst (λ (t : ℕ). In (vote_of t voter s.me) w.votes) current (vote-for s w term voter granted h.setup inner.0 h.sent);
      } in
      let v = after w (CountVote s.me voter) in
      let counted : IsLike s v n =
      record {
        group = record { size = like.group.size; bound = like.group.bound };
        tied = tie-count w s.me m voter tied stands (omega (arith, inside, each));
        holds = holds-on w.table w.replied w.replied w.reports w.reports s.me m n like.holds refl refl refl refl (λ r there. there) (led-candidate w.reports s.me n stands);
      } in
      way-first s w o w.passed w.reports (CountVote s.me voter) refl may
      (elects s v n o h.setup (steps_keep w (CountVote s.me voter) h.kept may) counted stands (length-set m.votes voter true ∙ each)
      (λ u won. way-end s u o won (All-nil (IsBacked s u))))

  vote-way : (b : Bool) → counts_vote m term granted ≡ b → voter < length s.members
      → IsWay s w (if b then stays m (wins_if_elected s (with_vote m voter)) [] else stays m (rise_to term m) []) w.passed w.reports
  vote-way true e inside = counts-way e inside
  vote-way false e inside =
      let o = stays m (rise_to term m) [] in
      rises s w m term o h.setup h.kept (like_of s w m h.shown) (λ v same kept like. way-end s v o like (All-nil (IsBacked s v)))

pub vote_rows : (from : Addr) (term voter : ℕ) (granted : Bool) → RowIsRules (Told from (Vote term voter granted))
unfolding row hear_vote
vote_rows from term voter granted s w m h =
    let said = Told from (Vote term voter granted) in
    let goes = goes-row s h.setup m said h.sayable h.shown.sound in
    by-fits s w m said h (hear_vote s m term voter granted) (is_from_member s from voter) goes.sound
    (λ fits sound.
    row-of s w m said (hear_vote s m term voter granted) sound
    (vote-way s w m from term voter granted h (counts_vote m term granted) refl (sender-inside s from voter fits)))
    (λ e. refl)
