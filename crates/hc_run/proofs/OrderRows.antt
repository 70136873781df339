-- The rows of Orders: refused, and taken.
use Rattle.std.proofs.Common.{◌≡◌, ℕ, suc, ◌+◌, ◌-◌, ◌<◌, ◌≤◌, ◌==◌, ◌&&◌, Bool, true, false, max, min, not, List, [], ◌∷◌, ◌++◌, length, map, take, drop, get_or, None, refl, sym, ap, subst, ◌∙◌, arith, inl, inr, ◌⊎◌, length-drop}
use Rattle.std.specs.Prelude.{All, if◌then◌else◌, nat_lt}
use Rattle.std.proofs.lemmas.Bool.{and_parts, cases_lt, eqb-true, ltb-false}
use Rattle.std.proofs.lemmas.List.{get_or-drop, get_or-take, get_or_default, length-take, map-append, take-map}
use Rattle.std.proofs.lemmas.List.Elements.{All-cons, All-drop, All-map, All-nil, All-take}
use Rattle.r2_base.specs.declared.addr.Addr.{Addr}
use Rattle.r2_base.specs.declared.entry.Entry.{Entry}
use Rattle.r2_base.specs.declared.rid.Rid.{Rid}
use Rattle.r2_base.specs.Entry.{blank_entry}
use Rattle.hc_log.specs.declared.stored.Stored.{Stored}
use Rattle.hc_log.specs.Log.{blank_of, metas_of, term_at}
use Rattle.hc_message.specs.declared.msg.Msg.TheVariants.{Order, Ack, Nack, RecoverAsk}
use Rattle.hc_message.specs.Message.{AreOrdered}
use Rattle.hc_order.specs.Laws.{ChangesNothing, GoesOn}
use Rattle.hc_order.specs.Taking.{Taken, agreeing, taken}
use Rattle.hc_order.proofs.Agreed.{agreed-inside}
use Rattle.hc_order.proofs.Takings.{takings_are_right}
use Rattle.hc_member.specs.declared.setup.Setup.{Setup}
use Rattle.hc_member.specs.declared.heard.Heard.TheVariants.{Told}
use Rattle.hc_member.specs.declared.role.Role.{Role as MemberRole}
use Rattle.hc_member.specs.declared.role.Role.TheVariants as member
use Rattle.hc_member.specs.Member.{Member, is_leader, leads}
use Rattle.hc_member.specs.Orders.{HeardOrder, follows, hear_order, is_from_leader, joins, refusal, refuse, take_or_refuse, take_order}
use Rattle.hc_member.specs.Outcome.{Outcome, nothing, stays}
use Rattle.hc_member.specs.Sending.{Sending, Recover, Tell}
use Rattle.hc_member.specs.Setup.{IsSetup, address_of}
use Rattle.hc_member.specs.Sound.{IsSound}
use Rattle.hc_member.specs.Turn.{row}
use Rattle.hc_member.specs.Votes.{rise_to}
use Rattle.hc_member.proofs.OrderRows.{follows-parts}
use Rattle.hc_member.proofs.Rows.{goes-row}
use Rattle.hc_rules.specs.Conditions.{AreHeld, Conflicts, Fits, Hears, MayYield}
use Rattle.hc_rules.specs.Kept.{Kept}
use Rattle.hc_rules.specs.Log as world
use Rattle.hc_rules.specs.Log.{In}
use Rattle.hc_rules.specs.Message as message
use Rattle.hc_rules.specs.Parts.{member_of}
use Rattle.hc_rules.specs.Protocol.{ProtocolState, Follower, Leader}
use Rattle.hc_rules.specs.Requests.{IsKnown}
use Rattle.hc_rules.specs.Rules.{Acknowledge, CommitByOrder, Confirm, Hold, RejectOrder, Take, Yield, after}
use Rattle.hc_rules.specs.Rules as rule
use Rattle.hc_rules.proofs.Puts.{put_same, self}
use Rattle.hc_rules.proofs.Steps.{steps_keep}
use Rattle.hc_run.specs.Backed.{IsBacked}
use Rattle.hc_run.specs.Held.{Holds}
use Rattle.hc_run.specs.Rows.{HearsSent, RowIsRules}
use Rattle.hc_run.specs.Tied.{IsTied, role_in}
use Rattle.hc_run.proofs.Common.{by-fits, holds-on, led-follower}
use Rattle.hc_run.proofs.Metas.{entry-metas, length-metas, term-metas}
use Rattle.hc_run.proofs.Sendings.{order_with}
use Rattle.hc_run.proofs.Takings.{AreOf, IsKnownEntry, agreed-terms, requests-in, requests-known, requests_in, taken-missing, taken-of, upto-stood}
use Rattle.hc_run.proofs.Ties.{tie-commit, tie-yield}
use Rattle.hc_run.proofs.VoteRows.{risen-term}
use Rattle.hc_run.proofs.Ways.{IsLike, IsWay, SameSent, acts, like_of, rises, row-of, way-end, way-first}

-- Refusals --

-- a member refuses an Order
rejects : (s : Setup) (w : ProtocolState) (m old : Member) (to : Addr) (hint : ℕ) → IsSetup s → IsLike s w m
    → IsWay s w (stays old m (Tell to (Nack m.term s.me hint) ∷ [])) w.passed w.reports
rejects s w m old to hint is like =
    let tied = like.tied in
    let v = after w (RejectOrder s.me hint) in
    let o = stays old m (Tell to (Nack m.term s.me hint) ∷ []) in
    way-first s w o w.passed w.reports (RejectOrder s.me hint) refl (acts s w m is like)
    (way-end s v o (record { group = record { size = like.group.size; bound = like.group.bound }; tied = like.tied; holds = like.holds })
    (All-cons (IsBacked s v) (Tell to (Nack m.term s.me hint)) [] (inl (rw tied.term refl)) (All-nil (IsBacked s v))))

-- What an Order says --

-- the requests of an Order that was sent are the table's
pub order-known : (w : ProtocolState) (o : message.Order) → Kept w → In o w.orders → All (IsKnownEntry w.table) o.entries
order-known w o kept sent k d inside asks =
    let logs = kept.logs in
    let slice = logs.orders_are_slices o sent in
    let formed = logs.logs_are_formed in
    let book = w.book o.term in
    let within = slice.within in
    let place : o.previous + k < length book = omega (arith, inside, within) in
    let same : get_or o.entries k d ≡ world.entry_at book (suc (o.previous + k)) =
    ap (λ (es : List Entry). get_or es k d) (sym slice.entries_are)
    ∙ get_or-take (length o.entries) (drop o.previous book) k d inside
    ∙ get_or-drop o.previous book k d
    ∙ get_or_default book (o.previous + k) d (blank_entry 0) place in
    let listed = (formed.of_book o.term).listed (o.previous + k) place (rw same at asks) in
    record { request = listed.request; sent = listed.sent; named = listed.named ∙ ap (λ (e : Entry). e.rid) (sym same) }

-- Following --

-- a member that isn't a leader of its term follows
follows-by : (s : Setup) (w : ProtocolState) (n : Member) (o : Outcome) (order : message.Order) (r : MemberRole) → n.role ≡ r → (r ≡ member.Leader → ⊥) → IsSetup s → Kept w
    → IsLike s w n → In order w.orders → order.term ≡ n.term
    → ((v : ProtocolState) → SameSent w v → Kept v → IsLike s v (record n { role = member.Follower; silent = 0 }) → IsWay s v o v.passed v.reports)
    → IsWay s w o w.passed w.reports
follows-by s w n o order member.Leader e not_leader is kept like sent current goes = absurd (not_leader refl)
follows-by s w n o order member.Follower e not_leader is kept like sent current goes =
    let t = like.tied in
    let x : Member = record n { role = member.Follower; silent = 0 } in
    goes w (record { vote_requests = refl; votes = refl; orders = refl; passed = refl; reports = refl; table = refl }) kept
    (record {
      group = like.group;
      tied = record {
        up = t.up;
        term = t.term;
        vote = t.vote;
        log = t.log;
        role = t.role ∙ ap role_in e;
        matched = t.matched;
        commit = t.commit;
        applied = t.applied;
        counted = λ f c. absurd cc;
        start = λ f. absurd cc;
        reached = λ f p. absurd cc;
      };
      holds = holds-on w.table w.replied w.replied w.reports w.reports s.me n x like.holds refl refl refl refl (λ r there. there) (led-follower w.reports s.me x refl);
    })
follows-by s w n o order member.Candidate e not_leader is kept like sent current goes =
    let tied = like.tied in
    let x : Member = record n { role = member.Follower; silent = 0 } in
    let may : MayYield w s.me order =
    record {
      competes = record { acts = acts s w n is like; competes = rw (tied.role, e) refl };
      sent = sent;
      current = rw tied.term current;
    } in
    way-first s w o w.passed w.reports (Yield s.me order) refl may
    (goes (after w (Yield s.me order)) (record { vote_requests = refl; votes = refl; orders = refl; passed = refl; reports = refl; table = refl })
    (steps_keep w (Yield s.me order) kept may)
    (record {
      group = record { size = like.group.size; bound = like.group.bound };
      tied = tie-yield w s.me n tied order 0;
      holds = holds-on w.table w.replied w.replied w.reports w.reports s.me n x like.holds refl refl refl refl (λ r there. there) (led-follower w.reports s.me x refl);
    }))

-- Taking --

-- what a member holds isn't tied
pub tie-hold : (w : ProtocolState) (v : ℕ) (m : Member) (rids : List Rid) → IsTied (member_of w v) m → IsTied (member_of (after w (Hold v rids)) v) m
tie-hold w v m rids t =
    record {
      up = t.up;
      term = t.term;
      vote = t.vote;
      log = t.log;
      role = t.role;
      matched = t.matched;
      commit = t.commit;
      applied = t.applied;
      counted = t.counted;
      start = t.start;
      reached = t.reached;
    }

-- an acknowledgement, by its parts
abbrev ack_with : ℕ → ℕ → ℕ → ℕ → message.Ack
ack_with term member index applied = record { term = term; member = member; index = index; applied = applied }

acks-equal : (member index t t' a a' : ℕ) → t ≡ t' → a ≡ a' → ack_with t member index a ≡ ack_with t' member index a'
acks-equal member index t t' a a' p q = cc

module _ (s : Setup) (is : IsSetup s) (n : Member) (order : message.Order) (commit : ℕ) (from leader_at : Addr) (follows_now : n.role ≡ member.Follower) where
  -- a member whose log is so much the leader's
  abbrev with_log : Taken → Member
  with_log t = record n { log = t.log; pool = t.pool; matched = max n.matched t.upto }

  -- what it sends then
  abbrev tells : Taken → List Sending
  tells t =
      Tell from (Ack n.term s.me (max n.matched t.upto) n.applied) ∷ map (λ rid. Recover leader_at rid (RecoverAsk s.me)) t.missing

  abbrev comes : Taken → Outcome
  comes t =
      record {
        member = record n { log = t.log; pool = t.pool; matched = max n.matched t.upto; commit = max n.commit (min commit (max n.matched t.upto)) };
        keep = t.keep;
        sends = tells t;
      }

  -- it learns what is committed, and acknowledges
  acknowledges : (w : ProtocolState) (t : Taken) → IsLike s w (with_log t) → In order w.orders → order.term ≡ n.term → order.commit ≡ commit
      → All (IsKnown w.table) t.missing → IsWay s w (comes t) w.passed w.reports
  acknowledges w t like sent current same known =
      let tied = like.tied in
      let matched = max n.matched t.upto in
      let upto = min commit matched in
      let x : Member = record n { log = t.log; pool = t.pool; matched = matched; commit = max n.commit upto } in
      let v = after w (CommitByOrder s.me order upto) in
      let u = after v (Acknowledge s.me matched) in
      let acting = acts s w (with_log t) is like in
      let ack : ack_with n.term s.me matched n.applied ≡ rule.ack_of v s.me matched = acks-equal s.me matched n.term (w.term s.me) n.applied (w.applied s.me) (sym tied.term) (sym tied.applied) in
      way-first s w (comes t) w.passed w.reports (CommitByOrder s.me order upto) refl
      (record {
        acts = acting;
        sent = sent;
        current = rw tied.term current;
        told = omega (arith, same);
        within = rw tied.matched (omega arith);
      })
      (way-first s v (comes t) w.passed w.reports (Acknowledge s.me matched) refl
      (record {
        acts = record { member = acting.member; runs = acting.runs };
        follows = λ leads. (let role = tied.role ∙ ap role_in follows_now in let both : Follower ≡ Leader = sym role ∙ leads in absurd cc);
        within = rw tied.matched (omega arith);
      })
      (way-end s u (comes t)
      (record {
        group = record { size = like.group.size; bound = like.group.bound };
        tied = tie-commit w s.me (with_log t) tied upto (max n.commit upto) refl;
        holds = (let holds = like.holds in holds-on w.table w.replied w.replied w.reports w.reports s.me (with_log t) x holds refl refl refl refl (λ r there. there) (led-follower w.reports s.me x follows_now));
      })
      (All-cons (IsBacked s u) (Tell from (Ack n.term s.me matched n.applied)) (map (λ rid. Recover leader_at rid (RecoverAsk s.me)) t.missing) (inl ack)
      (All-map (IsBacked s u) (λ (rid : Rid). Recover leader_at rid (RecoverAsk s.me)) t.missing known))))

  -- what it holds then
  holds-taken : (w : ProtocolState) (t : Taken) → IsLike s w n → t ≡ taken n.log n.pool order.previous order.entries (max n.commit n.matched)
      → Holds w.table w.replied w.reports s.me (with_log t)
  holds-taken w t like made =
      let holds = like.holds in
      let are = subst (λ (x : Taken). AreOf w.table x.log x.pool) (sym made) (taken-of w.table n.log n.pool order.previous order.entries (max n.commit n.matched) (holds.bodies, holds.pool)) in
      record {
        bodies = are.0;
        pool = are.1;
        kept = holds.kept;
        led = led-follower w.reports s.me (with_log t) follows_now;
        unfinished = holds.unfinished;
      }

  -- the Order's entries that stand in the log fit
  fits-stood : (w : ProtocolState) → IsLike s w n → order.previous ≤ length n.log → term_at n.log order.previous ≡ order.previous_term
      → Fits (w.log s.me) order (agreeing n.log order.previous order.entries)
  fits-stood w like inside same =
      let tied = like.tied in
      let agreed = agreed-inside n.log order.previous order.entries inside in
      rw tied.log (record {
        count = agreed.0;
        within = rw (length-metas n.log) agreed.1;
        previous = term-metas n.log order.previous ∙ same;
        entries = agreed-terms n.log order.previous order.entries;
      })

  hears : (w : ProtocolState) → IsLike s w n → In order w.orders → order.term ≡ n.term → Hears w s.me order
  hears w like sent current =
      let tied = like.tied in
      record {
        acts = acts s w n is like;
        follows = λ leads. (let both : Follower ≡ Leader = sym (tied.role ∙ ap role_in follows_now) ∙ leads in absurd cc);
        sent = sent;
        current = rw tied.term current;
      }

  -- nothing is appended
  confirms : (w : ProtocolState) (t : Taken) → IsLike s w n → Kept w → In order w.orders → order.term ≡ n.term → order.commit ≡ commit → order.previous ≤ length n.log
      → term_at n.log order.previous ≡ order.previous_term → t ≡ taken n.log n.pool order.previous order.entries (max n.commit n.matched)
      → ChangesNothing n.log n.pool t → IsWay s w (comes t) w.passed w.reports
  confirms w t like kept sent current same inside previous made nothing_new =
      let tied = like.tied in
      let stood = agreeing n.log order.previous order.entries in
      let upto : t.upto ≡ order.previous + stood =
      ap (λ (x : Taken). x.upto) made
      ∙ upto-stood n.log n.pool order.previous order.entries (max n.commit n.matched) (subst (λ (x : Taken). x.entries ≡ []) made nothing_new.nothing) in
      let rule = Confirm s.me order stood in
      let v = after w rule in
      let log_is = nothing_new.same_log in
      let like_v : IsLike s v (with_log t) =
      record {
        group = record { size = like.group.size; bound = like.group.bound };
        tied = record {
          up = tied.up;
          term = tied.term;
          vote = tied.vote;
          log = tied.log ∙ ap metas_of (sym log_is);
          role = put_same w.role s.me Follower ∙ sym (ap role_in follows_now);
          matched = put_same w.matched s.me (max (w.matched s.me) (order.previous + stood)) ∙ rw (tied.matched, upto) refl;
          commit = tied.commit;
          applied = tied.applied;
          counted = λ f c. (let both = sym follows_now ∙ f in absurd cc);
          start = λ f. (let both = sym follows_now ∙ f in absurd cc);
          reached = λ f p. (let both = sym follows_now ∙ f in absurd cc);
        };
        holds = holds-taken w t like made;
      } in
      way-first s w (comes t) w.passed w.reports rule refl
      (record { hears = hears w like sent current; fits = fits-stood w like inside previous })
      (acknowledges v t like_v sent current same
      (subst (λ (x : Taken). All (IsKnown w.table) x.missing) (sym made) (taken-missing w.table n.log n.pool order.previous order.entries (max n.commit n.matched) (order-known w order kept sent))))

  -- the bodies of what is appended are held
  held : (w : ProtocolState) (stood reached : ℕ) → reached ≤ length order.entries
      → AreHeld (requests_in (drop stood (take reached order.entries))) (w.log s.me) order.entries stood reached
  held w stood reached few j low high asks =
      let cut = take reached order.entries in
      let d = blank_entry 0 in
      let place : stood + (j - stood) ≡ j = omega (arith, low) in
      let short = length-take reached order.entries in
      let inside : j - stood < length (drop stood cut) = omega (arith, length-drop stood cut, short, few, high, low) in
      let same : get_or (drop stood cut) (j - stood) d ≡ get_or order.entries j d =
      get_or-drop stood cut (j - stood) d ∙ ap (λ (i : ℕ). get_or cut i d) place ∙ get_or-take reached order.entries j d high in
      inl (subst (λ (e : Entry). In e.rid (requests_in (drop stood cut))) same
      (requests-in (drop stood cut) (j - stood) d inside (rw same asks)))

  -- where the log goes on after what stood, it conflicts there
  conflicts : (w : ProtocolState) (t : Taken) → IsLike s w n → order.previous + agreeing n.log order.previous order.entries ≤ length n.log → max n.commit n.matched ≤ t.keep
      → (g : GoesOn n.log order.previous (agreeing n.log order.previous order.entries) order.entries t)
      → (length (w.log s.me) ≡ order.previous + agreeing n.log order.previous order.entries) ⊎ Conflicts w s.me order (agreeing n.log order.previous order.entries)
  conflicts w t like inside fixed g =
      let tied = like.tied in
      let stood = agreeing n.log order.previous order.entries in
      let size : length (w.log s.me) ≡ length n.log = ap length tied.log ∙ length-metas n.log in
      let keep = g.keep in
      elim (cases_lt (order.previous + stood) (length n.log)) [
        | inr past ↦ inl (omega (arith, size, past, inside))
        | inl more ↦
            let differ = g.cause more in
            inr (record {
              told = differ.inside;
              differs = λ same. (let alike : (get_or n.log (order.previous + stood) (blank_of 0)).entry.term ≡ (get_or order.entries stood (blank_entry 0)).term =
                  sym (ap (λ (l : List Entry). world.term_at l (suc (order.previous + stood))) tied.log ∙ ap (λ (e : Entry). e.term) (entry-metas n.log (order.previous + stood))) ∙ same in
                  let test = differ.other (blank_of 0) (blank_entry 0) in
                  let found : true ≡ false = sym (self (get_or order.entries stood (blank_entry 0)).term) ∙ (rw alike at test) in cc);
              committed = rw tied.commit (omega (arith, fixed, keep));
              matched = rw tied.matched (omega (arith, fixed, keep));
            })
      ]

  -- entries are appended
  takes : (w : ProtocolState) (t : Taken) → IsLike s w n → Kept w → In order w.orders → order.term ≡ n.term → order.commit ≡ commit → order.previous ≤ length n.log
      → term_at n.log order.previous ≡ order.previous_term → t ≡ taken n.log n.pool order.previous order.entries (max n.commit n.matched) → max n.commit n.matched ≤ t.keep
      → GoesOn n.log order.previous (agreeing n.log order.previous order.entries) order.entries t → IsWay s w (comes t) w.passed w.reports
  takes w t like kept sent current same inside previous made fixed g =
      let tied = like.tied in
      let stood = agreeing n.log order.previous order.entries in
      let agreed = agreed-inside n.log order.previous order.entries inside in
      let known = order-known w order kept sent in
      let rids = requests_in (drop stood (take g.reached order.entries)) in
      let hold = Hold s.me rids in
      let v = after w hold in
      let like_v : IsLike s v n =
      record { group = record { size = like.group.size; bound = like.group.bound }; tied = tie-hold w s.me n rids like.tied; holds = like.holds } in
      let rule = Take s.me order stood g.reached in
      let u = after v rule in
      let f = λ (x : Stored). x.entry in
      let log_is : metas_of t.log ≡ take (order.previous + stood) (metas_of n.log) ++ drop stood (take g.reached order.entries) =
      ap metas_of g.log_is ∙ map-append f (take (order.previous + stood) n.log) g.added
      ∙ ap (λ (l : List Entry). l ++ metas_of g.added) (sym (take-map f (order.previous + stood) n.log))
      ∙ ap (λ (l : List Entry). take (order.previous + stood) (metas_of n.log) ++ l) (g.metas ∙ g.appended) in
      let like_u : IsLike s u (with_log t) =
      record {
        group = record { size = like.group.size; bound = like.group.bound };
        tied = record {
          up = tied.up;
          term = tied.term;
          vote = tied.vote;
          log = put_same w.log s.me (take (order.previous + stood) (w.log s.me) ++ drop stood (take g.reached order.entries)) ∙ rw tied.log (sym log_is);
          role = put_same w.role s.me Follower ∙ sym (ap role_in follows_now);
          matched = put_same w.matched s.me (max (w.matched s.me) (order.previous + g.reached)) ∙ rw (tied.matched, g.upto) refl;
          commit = tied.commit;
          applied = tied.applied;
          counted = λ f c. (let both = sym follows_now ∙ f in absurd cc);
          start = λ f. (let both = sym follows_now ∙ f in absurd cc);
          reached = λ f p. (let both = sym follows_now ∙ f in absurd cc);
        };
        holds = holds-taken w t like made;
      } in
      way-first s w (comes t) w.passed w.reports hold refl
      (record {
        acts = acts s w n is like;
        known = requests-known w.table (drop stood (take g.reached order.entries)) (All-drop (IsKnownEntry w.table) stood (take g.reached order.entries) (All-take (IsKnownEntry w.table) g.reached order.entries known));
      })
      (way-first s v (comes t) w.passed w.reports rule refl
      (record {
        hears = hears v like_v sent current;
        fits = fits-stood w like inside previous;
        order = g.rises;
        count = g.few;
        cut = conflicts v t like_v agreed.1 fixed g;
        bodies = rw (put_same w.pool s.me rids) (held w stood g.reached g.few);
      })
      (acknowledges u t like_u sent current same
      (subst (λ (x : Taken). All (IsKnown w.table) x.missing) (sym made) (taken-missing w.table n.log n.pool order.previous order.entries (max n.commit n.matched) known))))

-- the previous entry stands in the log
joins-parts : (log : List Stored) (prev_index prev_term : ℕ) → joins log prev_index prev_term ≡ true → (prev_index ≤ length log) × (term_at log prev_index ≡ prev_term)
joins-parts log prev_index prev_term e =
    let both = and_parts (not (nat_lt (length log) prev_index)) (term_at log prev_index == prev_term) e in
    (ltb-false (length log) prev_index (not-true (nat_lt (length log) prev_index) both.0), eqb-true (term_at log prev_index) prev_term both.1)
  where
    not-true : (b : Bool) → not b ≡ true → b ≡ false
    not-true true e = cc
    not-true false e = refl

follows-role : (term : ℕ) (m : Member) → (follows term m).role ≡ member.Follower
unfolding follows
follows-role term m = refl

follows-term : (term : ℕ) (m : Member) → (follows term m).term ≡ (rise_to term m).term
unfolding follows
follows-term term m = refl

-- a leader that an Order of its term comes to would lead it
risen-leader : (term : ℕ) (m : Member) → nat_lt term m.term ≡ false → leads term m ≡ false → (rise_to term m).role ≡ member.Leader → ⊥
unfolding rise_to
risen-leader term m e f = by (nat_lt m.term term) refl
  where
    both : (r : MemberRole) (b : Bool) → (is_leader r && b) ≡ false → b ≡ true → r ≡ member.Leader → ⊥
    both r b f g h = absurd (let i = rw (h, g) at f in cc)

    by : (b : Bool) → nat_lt m.term term ≡ b → (if b then record m { term = term; vote = None; role = member.Follower; votes = []; matched = 0 } else m).role ≡ member.Leader → ⊥
    by true g h = absurd cc
    by false g h =
        let high = ltb-false m.term term g in
        let low = ltb-false term m.term e in
        let same : m.term ≡ term = omega (arith, high, low) in
        both m.role (m.term == term) f (rw same (self term)) h

module _ (s : Setup) (w : ProtocolState) (m : Member) (from : Addr) (term leader prev_index prev_term term_start commit : ℕ) (via : Bool) (entries : List Entry) (h : HearsSent s w m (Told from (Order term leader prev_index prev_term term_start commit via entries))) where
  abbrev heard_order : HeardOrder
  heard_order = record { leader = leader; prev_index = prev_index; prev_term = prev_term; commit = commit; entries = entries }

  abbrev sent_order : message.Order
  sent_order = order_with term leader prev_index prev_term term_start commit entries

  -- an Order that joins the log is taken
  take-way : (v : ProtocolState) (n : Member) → n.role ≡ member.Follower → IsSound s n → IsLike s v n → Kept v → In sent_order v.orders → term ≡ n.term
      → AreOrdered prev_index prev_term term entries → prev_index ≤ length n.log → term_at n.log prev_index ≡ prev_term
      → IsWay s v (take_order s n from heard_order) v.passed v.reports
  unfolding take_order
  take-way v n role sound like kept sent current ordered inside previous =
      let fixed = max n.commit n.matched in
      let t = taken n.log n.pool prev_index entries fixed in
      let valid = sound.durable in
      let here : AreOrdered prev_index (term_at n.log prev_index) term entries = rw previous ordered in
      let fixed_inside : fixed ≤ length n.log = (let committed = sound.committed in let matched = sound.matched in omega (arith, committed, matched)) in
      let taken_now = takings_are_right n.log n.pool prev_index entries fixed (record { is_log = valid.log; is_pool = sound.pool; apart = sound.apart })
      (record { inside = inside; term = term; ordered = here; fixed_inside = fixed_inside; apart = sound.apart }) in
      elim taken_now.change [
        | inl same ↦ confirms s h.setup n sent_order commit from (address_of s leader) role v t like kept sent current refl inside previous refl same
        | inr g ↦ takes s h.setup n sent_order commit from (address_of s leader) role v t like kept sent current refl inside previous refl taken_now.stays g
      ]

  join-way : (b : Bool) (v : ProtocolState) (n : Member) → joins n.log prev_index prev_term ≡ b → n.role ≡ member.Follower → IsSound s n → IsLike s v n → Kept v → In sent_order v.orders
      → term ≡ n.term → AreOrdered prev_index prev_term term entries → IsWay s v (if b then take_order s n from heard_order else refuse s n heard_order) v.passed v.reports
  unfolding refuse
  join-way true v n e role sound like kept sent current ordered =
      let parts = joins-parts n.log prev_index prev_term e in
      take-way v n role sound like kept sent current ordered parts.0 parts.1
  join-way false v n e role sound like kept sent current ordered =
      rejects s v n n (address_of s leader) (min (length n.log) (prev_index - 1)) h.setup like

  hears-way : (b : Bool) → leads term m ≡ b → nat_lt term m.term ≡ false → IsWay s w (if b then nothing m else take_or_refuse s (follows term m) from heard_order) w.passed w.reports
  unfolding follows
  hears-way true e low = way-end s w (nothing m) (like_of s w m h.shown) (All-nil (IsBacked s w))
  hears-way false e low =
      let n = rise_to term m in
      let x = follows term m in
      let o = take_or_refuse s x from heard_order in
      let head = h.sayable.0 in
      let ordered = h.sayable.1 in
      let current = risen-term term m low in
      let sound = (follows-parts s h.setup m term head.own h.shown.sound).sound in
      rises s w m term o h.setup h.kept (like_of s w m h.shown)
      (λ v same kept like.
      follows-by s v n o sent_order n.role refl (risen-leader term m low e) h.setup kept like (rw same.orders h.sent) current
      (λ u same_u kept_u like_u.
      join-way (joins x.log prev_index prev_term) u x refl (follows-role term m) sound (like-follows u like_u) kept_u (rw (same_u.orders, same.orders) h.sent)
      (current ∙ sym (follows-term term m)) ordered))
    where
      like-follows : (u : ProtocolState) → IsLike s u (record (rise_to term m) { role = member.Follower; silent = 0 }) → IsLike s u (follows term m)
      like-follows u like = like

  order-way : (b : Bool) → nat_lt term m.term ≡ b
      → IsWay s w (if b then stays m m (refusal s m leader 0) else (if leads term m then nothing m else take_or_refuse s (follows term m) from heard_order)) w.passed w.reports
  order-way true e = rejects s w m m (address_of s leader) 0 h.setup (like_of s w m h.shown)
  order-way false e = hears-way (leads term m) refl e

pub order_rows : (from : Addr) (term leader prev_index prev_term term_start commit : ℕ) (via : Bool) (entries : List Entry)
    → RowIsRules (Told from (Order term leader prev_index prev_term term_start commit via entries))
unfolding row hear_order
order_rows from term leader prev_index prev_term term_start commit via entries s w m h =
    let said = Told from (Order term leader prev_index prev_term term_start commit via entries) in
    let o : HeardOrder = record { leader = leader; prev_index = prev_index; prev_term = prev_term; commit = commit; entries = entries } in
    let goes = goes-row s h.setup m said h.sayable h.shown.sound in
    by-fits s w m said h (hear_order s m from term o) (is_from_leader s from leader via) goes.sound
    (λ fits sound.
    row-of s w m said (hear_order s m from term o) sound
    (order-way s w m from term leader prev_index prev_term term_start commit via entries h (nat_lt term m.term) refl))
    (λ e. refl)
