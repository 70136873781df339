-- The rows of ticks.
use Rattle.std.proofs.Common.{◌≡◌, ℕ, suc, ◌==◌, Bool, true, false, List, [], length, map, drop, replicate, Some, refl, sym, ap, ◌∙◌, arith, add-one, inl, inr}
use Rattle.std.specs.Prelude.{All, if◌then◌else◌, nat_le, slice_index_or}
use Rattle.std.proofs.lemmas.Bool.{cases_lt}
use Rattle.std.proofs.lemmas.List.{get_or-replicate, get_or_past, get_or-set_other, get_or-set_same, length-replicate, length-set}
use Rattle.std.proofs.lemmas.List.Elements.{All-drop, All-map, All-nil}
use Rattle.hc_log.specs.Log.{last_term}
use Rattle.hc_pool.specs.declared.request.Request.{Request}
use Rattle.hc_pool.specs.Pool.{most_pooled}
use Rattle.hc_member.specs.declared.setup.Setup.{Setup}
use Rattle.hc_member.specs.declared.heard.Heard.TheVariants.{Time}
use Rattle.hc_member.specs.declared.role.Role.{Role as MemberRole}
use Rattle.hc_member.specs.declared.role.Role.TheVariants as member
use Rattle.hc_member.specs.Member.{Member}
use Rattle.hc_member.specs.Orders.{direct_order}
use Rattle.hc_member.specs.Outcome.{stays}
use Rattle.hc_member.specs.Sending.{Tell}
use Rattle.hc_member.specs.Setup.{IsSetup, address_of, others}
use Rattle.hc_member.specs.Ticks.{campaigns, is_impatient, relieved, ticked, waited, waits}
use Rattle.hc_member.specs.Turn.{row}
use Rattle.hc_member.specs.Votes.{is_elected, own_vote, stands, vote_request, vote_requests, wins}
use Rattle.hc_member.proofs.Rows.{goes-row}
use Rattle.hc_rules.specs.Conditions.{MayStand}
use Rattle.hc_rules.specs.Kept.{Kept}
use Rattle.hc_rules.specs.Log as world
use Rattle.hc_rules.specs.Message.{VoteRequest}
use Rattle.hc_rules.specs.Parts.{member_of}
use Rattle.hc_rules.specs.Protocol.{ProtocolState, Leader, Candidate}
use Rattle.hc_rules.specs.Rules.{AskVotes, Stand, after}
use Rattle.hc_rules.specs.Rules as rule
use Rattle.hc_rules.proofs.Puts.{put_same, same_or_not, self}
use Rattle.hc_rules.proofs.Steps.{steps_keep}
use Rattle.hc_run.specs.Backed.{IsBacked}
use Rattle.hc_run.specs.Held.{IsAskedIn}
use Rattle.hc_run.specs.Rows.{HearsSent, RowIsRules}
use Rattle.hc_run.specs.Tied.{IsTied, role_in}
use Rattle.hc_run.proofs.Common.{holds-on, led-candidate}
use Rattle.hc_run.proofs.Elections.{elected-way}
use Rattle.hc_run.proofs.Metas.{last-metas, length-metas}
use Rattle.hc_run.proofs.Sendings.{sends-direct}
use Rattle.hc_run.proofs.Ties.{tie-rest}
use Rattle.hc_run.proofs.Ways.{IsLike, IsWay, acts, like_of, row-of, way-end, way-first}

-- Standing for election --

tie-stand : (s : Setup) (w : ProtocolState) (m : Member) → IsSetup s → IsTied (member_of w s.me) m → IsTied (member_of (after w (Stand s.me)) s.me) (stands s m)
unfolding stands
tie-stand s w m is t =
    record {
      up = t.up;
      term = put_same w.term s.me (suc (w.term s.me)) ∙ rw t.term (sym (add-one m.term));
      vote = put_same w.vote s.me (Some s.me);
      log = t.log;
      role = put_same w.role s.me Candidate;
      matched = put_same w.matched s.me 0;
      commit = t.commit;
      applied = t.applied;
      counted = λ e c. ap (λ (f : ℕ → Bool). f c) (put_same w.counted s.me (λ (c : ℕ). c == s.me)) ∙ own c;
      start = λ e. absurd cc;
      reached = λ e p. absurd cc;
    }
  where
    none : (n c : ℕ) → slice_index_or (replicate {A = Bool} n false) c false ≡ false
    none n c =
        elim (cases_lt c n) [
          | inl inside ↦ get_or-replicate n c false false inside
          | inr past ↦ get_or_past (replicate {A = Bool} n false) c false (omega (arith, past, length-replicate {A = Bool} n false))
        ]

    differs : {c d : ℕ} → (c == d) ≡ false → c ≡ d → ⊥
    differs {c} {d} e same = absurd (let f = rw (same, self d) at e in cc)

    own : (c : ℕ) → (c == s.me) ≡ slice_index_or (own_vote s) c false
    own c =
        let members = replicate {A = Bool} (length s.members) false in
        elim (same_or_not c s.me) [
          | inl same ↦ rw (same, self s.me, get_or-set_same members s.me true false (omega (arith, is.own, length-replicate {A = Bool} (length s.members) false))) refl
          | inr e ↦ rw (e, get_or-set_other members s.me c true false (differs e)) (sym (none (length s.members) c))
        ]

like-stand : (s : Setup) (w : ProtocolState) (m : Member) → IsSetup s → IsLike s w m → IsLike s (after w (Stand s.me)) (stands s m)
unfolding stands
like-stand s w m is like =
    record {
      group = record { size = like.group.size; bound = like.group.bound };
      tied = tie-stand s w m is like.tied;
      holds = holds-on w.table w.replied w.replied w.reports w.reports s.me m (stands s m) like.holds refl refl refl refl (λ r there. there) (led-candidate w.reports s.me (stands s m) refl);
    }

stands-role : (s : Setup) (m : Member) → (stands s m).role ≡ member.Candidate
unfolding stands
stands-role s m = refl

stands-votes : (s : Setup) (m : Member) → length (stands s m).votes ≡ length s.members
unfolding stands
stands-votes s m = length-set (replicate {A = Bool} (length s.members) false) s.me true ∙ length-replicate {A = Bool} (length s.members) false

-- a request for votes, by its parts
abbrev request_with : ℕ → ℕ → ℕ → ℕ → VoteRequest
request_with term candidate last_index last_term =
    record { term = term; candidate = candidate; last_index = last_index; last_term = last_term }

requests-equal : (me : ℕ) (t t' i i' l l' : ℕ) → t ≡ t' → i ≡ i' → l ≡ l'
    → (record { term = t; candidate = me; last_index = i; last_term = l }) ≡ request_with t' me i' l'
requests-equal me t t' i i' l l' a b c = cc

-- a candidate asks the others
asks-way : (s : Setup) (w : ProtocolState) (m old : Member) → IsSetup s → IsLike s w m → m.role ≡ member.Candidate
    → IsWay s w (stays old m (vote_requests s m)) w.passed w.reports
asks-way s w m old is like competes =
    let tied = like.tied in
    let v = after w (AskVotes s.me) in
    let same : request_with m.term s.me (length m.log) (last_term m.log) ≡ rule.vote_request w s.me =
    requests-equal s.me m.term (w.term s.me) (length m.log) (length (w.log s.me)) (last_term m.log) (world.last_term (w.log s.me)) (sym tied.term)
    (rw tied.log (sym (length-metas m.log))) (rw tied.log (sym (last-metas m.log))) in
    way-first s w (stays old m (vote_requests s m)) w.passed w.reports (AskVotes s.me) refl (record { acts = acts s w m is like; competes = rw (tied.role, competes) refl })
    (way-end s v (stays old m (vote_requests s m)) (record { group = record { size = like.group.size; bound = like.group.bound }; tied = like.tied; holds = like.holds })
    (All-map (IsBacked s v) (λ (x : ℕ). Tell (address_of s x) (vote_request s m)) (others s) (λ k d inside. inl same)))

campaign-way : (s : Setup) (w : ProtocolState) (m old : Member) (b : Bool) → IsSetup s → Kept w → IsLike s w m → m.role ≡ member.Candidate
    → length m.votes ≡ length s.members → is_elected s m.votes ≡ b
    → IsWay s w (if b then stays old (wins s m) [] else stays old m (vote_requests s m)) w.passed w.reports
campaign-way s w m old true is kept like competes each e =
    elected-way s w m (stays old (wins s m) []) true is kept like competes each e (λ v won. way-end s v (stays old (wins s m) []) won (All-nil (IsBacked s v)))
campaign-way s w m old false is kept like competes each e = asks-way s w m old is like competes

-- Waiting --

relieved-asked : (P : Request → Type 0) (pool : List Request) → All P pool → All P (relieved pool)
relieved-asked P pool all = by (nat_le most_pooled (length pool))
  where
    by : (b : Bool) → All P (if b then drop 1 pool else pool)
    by true = All-drop P 1 pool all
    by false = all

like-waited : (s : Setup) (w : ProtocolState) (m : Member) → IsLike s w m → IsLike s w (waited m)
unfolding waited
like-waited s w m like =
    let holds = like.holds in
    record {
      group = like.group;
      tied = tie-rest _ m (waited m).silent m.pending (relieved m.pool) m.unfinished m.kept m.service m.lead.next m.lead.queues like.tied;
      holds =
          record {
            bodies = holds.bodies;
            pool = relieved-asked (IsAskedIn w.table) m.pool holds.pool;
            kept = holds.kept;
            led = holds.led;
            unfinished = holds.unfinished;
          };
    }

role-waited : (m : Member) → (waited m).role ≡ m.role
unfolding waited
role-waited m = refl

not-leading : (r : MemberRole) → role_in r ≡ Leader → r ≡ member.Leader
not-leading member.Leader e = refl
not-leading member.Follower e = absurd cc
not-leading member.Candidate e = absurd cc

module _ (s : Setup) (w : ProtocolState) (m : Member) (h : HearsSent s w m Time) where
  waits-way : (b : Bool) → (m.role ≡ member.Leader → ⊥)
      → IsWay s w (if b then campaigns s m (stands s (waited m)) else stays m (waited m) []) w.passed w.reports
  unfolding campaigns
  waits-way true follows =
      let n = waited m in
      let x = stands s n in
      let like = like-waited s w m (like_of s w m h.shown) in
      let tied = like.tied in
      let may : MayStand w s.me =
      record {
        acts = acts s w n h.setup like;
        follows = λ leads. follows (not-leading m.role (sym (ap role_in (role-waited m)) ∙ sym tied.role ∙ leads));
      } in
      let v = after w (Stand s.me) in
      way-first s w (if is_elected s x.votes then stays m (wins s x) [] else stays m x (vote_requests s x)) w.passed w.reports (Stand s.me) refl may
      (campaign-way s v x m (is_elected s x.votes) h.setup (steps_keep w (Stand s.me) h.kept may) (like-stand s w n h.setup like) (stands-role s n) (stands-votes s n) refl)
  waits-way false follows =
      way-end s w (stays m (waited m) []) (like-waited s w m (like_of s w m h.shown)) (All-nil (IsBacked s w))

  ticked-way : (role : MemberRole) → m.role ≡ role → IsWay s w (ticked s m role) w.passed w.reports
  unfolding ticked waits
  ticked-way member.Leader e =
      sends-direct s w m (stays m m (map (direct_order s m) (others s))) (others s) h.setup (like_of s w m h.shown) h.shown.sound e
      (λ v like grown backed. way-end s v (stays m m (map (direct_order s m) (others s))) like backed)
  ticked-way member.Follower e = waits-way (is_impatient s (waited m)) (λ f. absurd cc)
  ticked-way member.Candidate e = waits-way (is_impatient s (waited m)) (λ f. absurd cc)

pub tick_rows : RowIsRules Time
unfolding row
tick_rows s w m h =
    let goes = goes-row s h.setup m Time h.sayable h.shown.sound in
    row-of s w m Time (ticked s m m.role) goes.sound (ticked-way s w m h m.role refl)
