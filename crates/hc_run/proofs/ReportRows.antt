-- The rows of acknowledgements, of refused Orders, and of what the aggregator found.
use Rattle.std.proofs.Common.{◌≡◌, ◌≢◌, ℕ, ◌<◌, ◌==◌, ◌&&◌, Bool, true, false, max, min, List, [], ◌∷◌, length, None, Some, refl, sym, ap, subst, ◌∙◌, arith, inl, inr}
use Rattle.std.specs.Prelude.{if◌then◌else◌, not, slice_set}
use Rattle.std.proofs.lemmas.Bool.{and_parts, eqb-true}
use Rattle.std.proofs.lemmas.List.{get_or-set_other, get_or-set_same}
use Rattle.std.proofs.lemmas.List.Elements.{All-nil}
use Rattle.r2_base.specs.declared.addr.Addr.{Addr}
use Rattle.hc_message.specs.declared.msg.Msg.TheVariants.{Ack, Nack, AggCommit}
use Rattle.hc_member.specs.declared.setup.Setup.{Setup}
use Rattle.hc_member.specs.declared.heard.Heard.TheVariants.{Told}
use Rattle.hc_member.specs.declared.role.Role.TheVariants as member
use Rattle.hc_member.specs.Member.{Lead, Member, is_candidate, is_leader, leads}
use Rattle.hc_member.specs.Orders.{direct_order}
use Rattle.hc_member.specs.Outcome.{stays}
use Rattle.hc_member.specs.Reports.{acknowledged, hear_ack, hear_commit, hear_nack, reached_by, report_in, report_of, turned_back, with_reached, with_report}
use Rattle.hc_member.specs.Setup.{is_from_aggregator, is_from_member}
use Rattle.hc_member.specs.Sound.{IsSound}
use Rattle.hc_member.specs.Turn.{row}
use Rattle.hc_member.specs.Votes.{rise_to}
use Rattle.hc_member.proofs.ReportRows.{leading, role-leads}
use Rattle.hc_member.proofs.Rows.{goes-row}
use Rattle.hc_rules.specs.Conditions.{Leads}
use Rattle.hc_rules.specs.Message.{Ack as WorldAck, AggregateCommit, Report}
use Rattle.hc_rules.specs.Parts.{member_of}
use Rattle.hc_rules.specs.Protocol.{ProtocolState, put}
use Rattle.hc_rules.specs.Rules.{CommitByAggregate, NoteAck, NoteReport, after}
use Rattle.hc_rules.proofs.Puts.{put_same, same_or_not, self}
use Rattle.hc_run.specs.Backed.{IsBacked}
use Rattle.hc_run.specs.Held.{IsLed}
use Rattle.hc_run.specs.Rows.{HearsSent, RowIsRules}
use Rattle.hc_run.specs.Steps.{heard_report}
use Rattle.hc_run.specs.Tied.{IsTied}
use Rattle.hc_run.proofs.Common.{by-fits, holds-on}
use Rattle.hc_run.proofs.Metas.{length-metas}
use Rattle.hc_run.proofs.Queues.{led-report}
use Rattle.hc_run.proofs.Senders.{sender-inside}
use Rattle.hc_run.proofs.Sendings.{sends-direct}
use Rattle.hc_run.proofs.Ties.{tie-commit, tie-rest}
use Rattle.hc_run.proofs.Ways.{IsWay, acts, like_of, rises, row-of, way-end, way-first}

-- What the aggregator found --

module _ (s : Setup) (w : ProtocolState) (m : Member) (from : Addr) (term index : ℕ) (h : HearsSent s w m (Told from (AggCommit term index))) where
  commit-way : (b : Bool) → ((m.term == term) && not (is_candidate m.role)) ≡ b
      → IsWay s w (if b then stays m (record m { commit = max m.commit (min index m.matched) }) [] else stays m m []) w.passed w.reports
  commit-way false e = way-end s w (stays m m []) (like_of s w m h.shown) (All-nil (IsBacked s w))
  commit-way true e =
      let current = eqb-true m.term term (and_parts (m.term == term) (not (is_candidate m.role)) e).0 in
      let like = like_of s w m h.shown in
      let tied = like.tied in
      let upto = min index m.matched in
      let n : Member = record m { commit = max m.commit upto } in
      let a : AggregateCommit = record { term = term; index = index } in
      let rule = CommitByAggregate s.me a upto in
      let v = after w rule in
      way-first s w (stays m n []) w.passed w.reports rule refl
      (record {
        acts = acts s w m h.setup like;
        sent = h.sent;
        current = sym (tied.term ∙ current);
        told = omega arith;
        matched = rw tied.matched (omega arith);
      })
      (way-end s v (stays m n [])
      (record {
        group = record { size = like.group.size; bound = like.group.bound };
        tied = tie-commit w s.me m tied upto (max m.commit upto) refl;
        holds = (let holds = like.holds in holds-on w.table w.replied w.replied w.reports w.reports s.me m n holds refl refl refl refl (λ r there. there) holds.led);
      })
      (All-nil (IsBacked s v)))

pub aggregate_rows : (from : Addr) (term index : ℕ) → RowIsRules (Told from (AggCommit term index))
unfolding row hear_commit
aggregate_rows from term index s w m h =
    let said = Told from (AggCommit term index) in
    let goes = goes-row s h.setup m said h.sayable h.shown.sound in
    by-fits s w m said h (hear_commit m term index) (is_from_aggregator s.aggregator from) goes.sound
    (λ fits sound. row-of s w m said (hear_commit m term index) sound (commit-way s w m from term index h ((m.term == term) && not (is_candidate m.role)) refl))
    (λ e. refl)

-- Acknowledgements --

-- a leader notes an index that a member reached
tie-note : (w : ProtocolState) (v : ℕ) (m : Member) (a : WorldAck) (lead : Lead) → IsTied (member_of w v) m → m.role ≡ member.Leader → a.member < length m.lead.reached
    → lead.term_start ≡ m.lead.term_start
    → lead.reached ≡ slice_set m.lead.reached a.member (max (reached_by m.lead a.member) (min a.index (length m.log)))
    → IsTied (member_of (after w (NoteAck v a)) v) (record m { lead = lead })
tie-note w v m a lead t leads inside start reached =
    record {
      up = t.up;
      term = t.term;
      vote = t.vote;
      log = t.log;
      role = t.role;
      matched = t.matched;
      commit = t.commit;
      applied = t.applied;
      counted = t.counted;
      start = λ e. t.start e ∙ sym start;
      reached = λ e q.
          let old = w.reached v in
          let new = max (old a.member) (min a.index (length (w.log v))) in
          let size : length (w.log v) ≡ length m.log = ap length t.log ∙ length-metas m.log in
          let value : new ≡ max (reached_by m.lead a.member) (min a.index (length m.log)) = rw (t.reached e a.member, size) refl in
          ap (λ (f : ℕ → ℕ). f q) (put_same w.reached v (put old a.member new))
          ∙ elim (same_or_not q a.member) [
            | inl same ↦
                rw (same, self a.member, reached, get_or-set_same m.lead.reached a.member (max (reached_by m.lead a.member) (min a.index (length m.log))) 0 inside) value
            | inr differs ↦
                rw (differs, reached, get_or-set_other m.lead.reached a.member q (max (reached_by m.lead a.member) (min a.index (length m.log))) 0 (not_same differs)) (t.reached e q)
          ];
    }
  where
    not_same : {c d : ℕ} → (c == d) ≡ false → c ≢ d
    not_same {c} {d} f g = absurd (let h = rw (g, self d) at f in cc)

-- a report, by its parts
abbrev report_with : ℕ → ℕ → ℕ → ℕ → Report
report_with leader term member index = record { leader = leader; term = term; member = member; index = index }

pub leads-parts : (m : Member) (term : ℕ) → leads term m ≡ true → (m.role ≡ member.Leader) × (m.term ≡ term)
leads-parts m term e =
    let both = and_parts (is_leader m.role) (m.term == term) e in
    (role-leads m.role both.0, eqb-true m.term term both.1)

module _ (s : Setup) (w : ProtocolState) (m : Member) (from : Addr) (term member index applied : ℕ) (h : HearsSent s w m (Told from (Ack term member index applied))) where
  noted-way : leads term m ≡ true → member < length s.members
      → IsWay s w (stays m (record m { lead = with_report (with_reached m.lead member (min index (length m.log))) member applied }) []) w.passed
      (report_with s.me m.term member applied ∷ w.reports)
  noted-way e inside =
      let parts = leads-parts m term e in
      let like = like_of s w m h.shown in
      let tied = like.tied in
      let holds = like.holds in
      let lead_is = leading s h.setup m h.shown.sound parts.0 in
      let reached_each = lead_is.reached_each in
      let a : WorldAck = record { term = term; member = member; index = index; applied = applied } in
      let reached = with_reached m.lead member (min index (length m.log)) in
      let n : Member = record m { lead = with_report reached member applied } in
      let v = after w (NoteAck s.me a) in
      let u = after v (NoteReport s.me a) in
      let acting = acts s w m h.setup like in
      let leads_here : Leads w s.me = record { acts = acting; leads = rw (tied.role, parts.0) refl } in
      let current : term ≡ w.term s.me = sym (tied.term ∙ parts.1) in
      let report : report_with s.me (w.term s.me) member applied ≡ report_with s.me m.term member applied = ap (λ (t : ℕ). report_with s.me t member applied) tied.term in
      let reports : report_with s.me (w.term s.me) member applied ∷ w.reports ≡ report_with s.me m.term member applied ∷ w.reports = ap (λ (r : Report). r ∷ w.reports) report in
      way-first s w (stays m n []) w.passed (report_with s.me m.term member applied ∷ w.reports) (NoteAck s.me a) refl
      (record { leads = leads_here; sent = h.sent; current = current })
      (way-first s v (stays m n []) w.passed (report_with s.me m.term member applied ∷ w.reports) (NoteReport s.me a) refl
      (record { leads = record { acts = record { member = acting.member; runs = acting.runs }; leads = leads_here.leads }; sent = h.sent; of_term = current })
      (subst (λ (r : List Report). IsWay s u (stays m n []) w.passed r) reports
      (way-end s u (stays m n [])
      (record {
        group = record { size = like.group.size; bound = like.group.bound };
        tied = tie-note w s.me m a n.lead tied parts.0 (omega (arith, inside, reached_each)) refl refl;
        holds =
            holds-on w.table w.replied w.replied w.reports (report_with s.me (w.term s.me) member applied ∷ w.reports) s.me m n holds refl refl refl refl (λ r there. there)
            (subst (λ (r : List Report). IsLed r s.me n) (sym reports) (led-report s w.reports s.me m reached member applied h.setup lead_is inside refl holds.led));
      })
      (All-nil (IsBacked s u)))))

  ack-way : (b : Bool) → leads term m ≡ b → member < length s.members
      → IsWay s w (stays m (acknowledged m term index (if b then Some (member, applied) else None)) []) w.passed
      (heard_report s.me m.term (if b then Some (member, applied) else None) w.reports)
  ack-way true e inside = noted-way e inside
  ack-way false e inside =
      let o = stays m (rise_to term m) [] in
      rises s w m term o h.setup h.kept (like_of s w m h.shown) (λ v same kept like. way-end s v o like (All-nil (IsBacked s v)))

-- what is reported where the sender fits
in-fits : (s : Setup) (m : Member) (from : Addr) (term member index applied : ℕ) → is_from_member s from member ≡ true
    → report_in s m (Told from (Ack term member index applied)) ≡ report_of m term member applied
in-fits s m from term member index applied e = rw e refl

in-other : (s : Setup) (m : Member) (from : Addr) (term member index applied : ℕ) → is_from_member s from member ≡ false
    → report_in s m (Told from (Ack term member index applied)) ≡ None
in-other s m from term member index applied e = rw e refl

pub ack_rows : (from : Addr) (term member index applied : ℕ) → RowIsRules (Told from (Ack term member index applied))
unfolding row hear_ack
ack_rows from term member index applied s w m h =
    let said = Told from (Ack term member index applied) in
    let goes = goes-row s h.setup m said h.sayable h.shown.sound in
    by-fits s w m said h (hear_ack m term member index applied) (is_from_member s from member) goes.sound
    (λ fits sound.
    row-of s w m said (hear_ack m term member index applied) sound
    (rw (in-fits s m from term member index applied fits) (ack-way s w m from term member index applied h (leads term m) refl (sender-inside s from member fits))))
    (λ e. in-other s m from term member index applied e)

-- Refused Orders --

module _ (s : Setup) (w : ProtocolState) (m : Member) (from : Addr) (term member hint : ℕ) (h : HearsSent s w m (Told from (Nack term member hint))) where
  nack-way : (b : Bool) → leads term m ≡ b
      → IsSound s (if b then stays m (turned_back m member hint) (direct_order s (turned_back m member hint) member ∷ []) else stays m (rise_to term m) []).member
      → IsWay s w (if b then stays m (turned_back m member hint) (direct_order s (turned_back m member hint) member ∷ []) else stays m (rise_to term m) []) w.passed w.reports
  nack-way true e sound =
      let parts = leads-parts m term e in
      let like = like_of s w m h.shown in
      let holds = like.holds in
      let n = turned_back m member hint in
      let o = stays m n (direct_order s n member ∷ []) in
      sends-direct s w n o (member ∷ []) h.setup
      (record {
        group = like.group;
        tied = tie-rest _ m m.silent m.pending m.pool m.unfinished m.kept m.service n.lead.next m.lead.queues like.tied;
        holds = holds-on w.table w.replied w.replied w.reports w.reports s.me m n holds refl refl refl refl (λ r there. there) holds.led;
      })
      sound parts.0 (λ v like_v grown backed. way-end s v o like_v backed)
  nack-way false e sound =
      let o = stays m (rise_to term m) [] in
      rises s w m term o h.setup h.kept (like_of s w m h.shown) (λ v same kept like. way-end s v o like (All-nil (IsBacked s v)))

pub nack_rows : (from : Addr) (term member hint : ℕ) → RowIsRules (Told from (Nack term member hint))
unfolding row hear_nack
nack_rows from term member hint s w m h =
    let said = Told from (Nack term member hint) in
    let goes = goes-row s h.setup m said h.sayable h.shown.sound in
    by-fits s w m said h (hear_nack s m term member hint) (is_from_member s from member) goes.sound
    (λ fits sound. row-of s w m said (hear_nack s m term member hint) sound (nack-way s w m from term member hint h (leads term m) refl sound))
    (λ e. refl)
