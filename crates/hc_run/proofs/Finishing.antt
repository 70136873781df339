-- What is pending is applied by the protocol's rules.
use Rattle.std.proofs.Common.{◌≡◌, ℕ, zero, suc, ◌+◌, ◌-◌, ◌^◌, ◌<◌, ◌≤◌, ◌==◌, Bool, true, false, List, [], ◌∷◌, ◌++◌, length, map, take, drop, get_or, refl, sym, ap, subst, ◌∙◌, arith, inl, inr, add-one, append_assoc, drop-cons}
use Rattle.std.specs.Prelude.{All, fold, if◌then◌else◌}
use Rattle.std.proofs.lemmas.List.{map-append}
use Rattle.std.proofs.lemmas.List.Elements.{All-cons, All-drop, All-head, All-nil, All-push, All-tail}
use Rattle.r2_base.specs.declared.entry.Entry.{Entry}
use Rattle.r2_base.specs.declared.rid.Rid.{Rid}
use Rattle.r2_frag.specs.declared.kept.KeptReply.{KeptReply}
use Rattle.r2_frag.specs.Kept.{kept_with, most_kept}
use Rattle.hc_log.specs.declared.stored.Stored.{Stored}
use Rattle.hc_log.specs.Log.{blank_of, metas_of, stored_at}
use Rattle.hc_log.specs.Ranges.{IsStored}
use Rattle.hc_log.specs.Log.{IsLog}
use Rattle.hc_log.proofs.Logs.{IsLog-limits}
use Rattle.hc_store.specs.State.{State as Service}
use Rattle.hc_store.specs.Replies.{Operation, reply_at}
use Rattle.hc_service.specs.declared.answer.Answer.{Answer}
use Rattle.hc_service.specs.Batch.{entries_between}
use Rattle.hc_service.specs.Entries.{operations}
use Rattle.hc_service.specs.Laws.{AreAnswers, IsAnswer}
use Rattle.hc_member.specs.declared.setup.Setup.{Setup}
use Rattle.hc_member.specs.declared.role.Role.{Role as MemberRole}
use Rattle.hc_member.specs.declared.role.Role.TheVariants as member
use Rattle.hc_member.specs.Finish.{applied, batch_of, batched, due, executed_batch, finished, reply_to, reported}
use Rattle.hc_member.specs.Member.{Member}
use Rattle.hc_member.specs.Outcome.{Outcome}
use Rattle.hc_member.specs.Sending.{Sending, Reply as ReplyTo}
use Rattle.hc_member.specs.Setup.{IsSetup}
use Rattle.hc_member.specs.Sound.{IsSound}
use Rattle.hc_member.proofs.Finished.{finishes, replies_are_one_thread}
use Rattle.hc_member.proofs.ReportRows.{leading}
use Rattle.hc_rules.specs.Conditions.{MayAnswer, MayApply}
use Rattle.hc_rules.specs.Kept.{Kept}
use Rattle.hc_rules.specs.Log as world
use Rattle.hc_rules.specs.Log.{In}
use Rattle.hc_rules.specs.Message.{Passed as WorldPassed, Reply, Report}
use Rattle.hc_rules.specs.Parts.{member_of}
use Rattle.hc_rules.specs.Protocol.{ProtocolState}
use Rattle.hc_rules.specs.Requests.{operations as world_operations}
use Rattle.hc_rules.specs.Rules.{Answer as AnswerRule, Apply, NoteOwnReport, after}
use Rattle.hc_rules.proofs.Puts.{put_same}
use Rattle.hc_rules.proofs.Steps.{steps_keep}
use Rattle.hc_run.specs.Backed.{IsBacked}
use Rattle.hc_run.specs.Halves.{FinishIsRules, IsSteps, Stands, passed_by}
use Rattle.hc_run.specs.Held.{IsLed, WasReplied}
use Rattle.hc_run.specs.State.{Passed}
use Rattle.hc_run.specs.Steps.{index_in, own_report, passes, reply_from}
use Rattle.hc_run.specs.Tied.{IsTied, passed_in}
use Rattle.hc_run.proofs.Common.{holds-on}
use Rattle.hc_run.proofs.Counting.{steps-of}
use Rattle.hc_run.proofs.Metas.{entry-metas, index-reply}
use Rattle.hc_run.proofs.Queues.{led-report}
use Rattle.hc_run.proofs.TableBodies.{operations-whole, whole-stored}
use Rattle.hc_run.proofs.Ties.{tie-rest}
use Rattle.hc_run.proofs.Ways.{IsLike, IsWay, acts, like_of, way-end, way-first}

-- What was passed --

pub passes-after : (v index : ℕ) (list : List Stored) (before : List Passed) → passes v index list before ≡ passes v index list [] ++ before
passes-after v index [] before = refl
passes-after v index (x ∷ list) before =
    let one : Passed = record { member = v; index = index; stored = x } in
    passes-after v (index + 1) list (one ∷ before)
    ∙ sym (append_assoc (passes v (index + 1) list []) (one ∷ []) before)
    ∙ ap (λ (l : List Passed). l ++ before) (sym (passes-after v (index + 1) list (one ∷ [])))

-- what was passed of the entries from an index on, after what was passed before
abbrev done_by : ℕ → ℕ → List Stored → List WorldPassed
done_by v index list = map passed_in (passes v index list [])

done-more : (v index : ℕ) (x : Stored) (list : List Stored) (before : List WorldPassed)
    → done_by v index (x ∷ list) ++ before ≡ done_by v (index + 1) list ++ (record { member = v; index = index; entry = x.entry }) ∷ before
done-more v index x list before =
    let one : Passed = record { member = v; index = index; stored = x } in
    ap (λ (l : List Passed). map passed_in l ++ before) (passes-after v (index + 1) list (one ∷ []))
    ∙ ap (λ (l : List WorldPassed). l ++ before) (map-append passed_in (passes v (index + 1) list []) (one ∷ []))
    ∙ append_assoc (map passed_in (passes v (index + 1) list [])) (passed_in one ∷ []) before

-- Applying --

-- what was passed, and a reply, by their parts
abbrev passed_with : ℕ → ℕ → Entry → WorldPassed
passed_with member index entry = record { member = member; index = index; entry = entry }

abbrev reply_with : Rid → ℕ → List ℕ → ℕ → Reply
reply_with request index payload place = record { request = request; index = index; payload = payload; place = place }

module _ (s : Setup) (is : IsSetup s) where
  tie-apply : (w : ProtocolState) (x : Member) (next : ℕ) → suc x.applied ≡ next → IsTied (member_of w s.me) x → IsTied (member_of (after w (Apply s.me)) s.me) (record x { applied = next })
  tie-apply w x next e t =
      record {
        up = t.up;
        term = t.term;
        vote = t.vote;
        log = t.log;
        role = t.role;
        matched = t.matched;
        commit = t.commit;
        applied = put_same w.applied s.me (suc (w.applied s.me)) ∙ ap suc t.applied ∙ e;
        counted = t.counted;
        start = t.start;
        reached = t.reached;
      }

  like-apply : (w : ProtocolState) (x : Member) (next : ℕ) → suc x.applied ≡ next → IsLike s w x → IsLike s (after w (Apply s.me)) (record x { applied = next })
  like-apply w x next e like =
      let holds = like.holds in
      record {
        group = record { size = like.group.size; bound = like.group.bound };
        tied = tie-apply w x next e like.tied;
        holds = record { bodies = holds.bodies; pool = holds.pool; kept = holds.kept; led = holds.led; unfinished = holds.unfinished };
      }

  -- what applying leaves of the rest
  record SameRest (w v : ProtocolState) : Type 0 where
    reports : v.reports ≡ w.reports
    table : v.table ≡ w.table

  -- so many entries are applied, one after another
  apply-all : (count : ℕ) (w : ProtocolState) (o : Outcome) (done : List WorldPassed) (told : List Report) (x : Member) (total : ℕ) → IsLike s w x → Kept w
      → x.applied + count ≡ total → total ≤ x.commit → total ≤ length x.log
      → ((v : ProtocolState) → IsLike s v (record x { applied = total }) → Kept v → v.passed ≡ done_by s.me (x.applied + 1) (take count (drop x.applied x.log)) ++ w.passed
      → SameRest w v → IsWay s v o done told)
      → IsWay s w o done told
  apply-all zero w o done told x total like kept e low inside goes =
      let same : x.applied ≡ total = omega (arith, e) in
      goes w (subst (λ (n : ℕ). IsLike s w (record x { applied = n })) same like) kept refl (record { reports = refl; table = refl })
  apply-all (suc count) w o done told x total like kept e low inside goes =
      let tied = like.tied in
      let v = after w (Apply s.me) in
      let next = x.applied + 1 in
      let y : Member = record x { applied = next } in
      let may : MayApply w s.me = record { acts = acts s w x is like; due = rw (tied.applied, tied.commit) (omega (arith, e, low)) } in
      let here : x.applied < length x.log = omega (arith, e, inside) in
      let first = get_or x.log x.applied (blank_of 0) in
      let split : drop x.applied x.log ≡ first ∷ drop next x.log = drop-cons x.log x.applied (blank_of 0) here ∙ ap (λ (k : ℕ). first ∷ drop k x.log) (sym (add-one x.applied)) in
      let batch : take (suc count) (drop x.applied x.log) ≡ first ∷ take count (drop next x.log) = rw split refl in
      let entry : world.entry_at (w.log s.me) (suc (w.applied s.me)) ≡ first.entry = rw (tied.log, tied.applied) (entry-metas x.log x.applied) in
      let passed_now : v.passed ≡ (record { member = s.me; index = next; entry = first.entry }) ∷ w.passed =
      ap (λ (p : WorldPassed). p ∷ w.passed) (passed-equal s.me (suc (w.applied s.me)) next (world.entry_at (w.log s.me) (suc (w.applied s.me))) first.entry (rw tied.applied (sym (add-one x.applied))) entry) in
      way-first s w o done told (Apply s.me) refl may
      (apply-all count v o done told y total (like-apply w x next (sym (add-one x.applied)) like) (steps_keep w (Apply s.me) kept may) (omega (arith, e)) low inside
      (λ u like_u kept_u passed same.
      goes u like_u kept_u
      (passed ∙ ap (λ (l : List WorldPassed). done_by s.me (next + 1) (take count (drop next x.log)) ++ l) passed_now
      ∙ sym (done-more s.me next first (take count (drop next x.log)) w.passed)
      ∙ ap (λ (l : List Stored). done_by s.me next l ++ w.passed) (sym batch))
      (record { reports = same.reports; table = same.table })))
    where
      passed-equal : (me i j : ℕ) (a b : Entry) → i ≡ j → a ≡ b → passed_with me i a ≡ passed_with me j b
      passed-equal me i j a b p q = cc

  -- Answering --

  -- an entry that a member answers
  entry-is : (log : List Stored) (index : ℕ) → 1 ≤ index → world.entry_at (metas_of log) index ≡ (stored_at log index).entry
  entry-is log zero set = absurd (omega (arith, set))
  entry-is log (suc before) set =
      let e : suc before - 1 ≡ before = omega arith in
      rw e (entry-metas log before)

  -- the answers go out
  answer-all : (answers : List Answer) (w : ProtocolState) (o : Outcome) (done : List WorldPassed) (told : List Report) (x : Member) (first : ℕ) → IsLike s w x → Kept w
      → All IsStored x.log → x.applied < 2 ^ 64 → 1 ≤ first → All (IsAnswer s.me x.log first x.applied) answers
      → ((v : ProtocolState) → IsLike s v x → Kept v → v.passed ≡ w.passed → SameRest w v → ((r : Reply) → In r w.replied → In r v.replied)
      → All (IsBacked s v) (map (λ a. ReplyTo (reply_to a)) answers) → IsWay s v o done told)
      → IsWay s w o done told
  answer-all [] w o done told x first like kept stored fits set are goes =
      goes w like kept refl (record { reports = refl; table = refl }) (λ r there. there) (All-nil (IsBacked s w))
  answer-all (a ∷ answers) w o done told x first like kept stored fits set are goes =
      let tied = like.tied in
      let holds = like.holds in
      let requests = kept.requests in
      let here = All-head (IsAnswer s.me x.log first x.applied) a answers are in
      let own = here.is_own in
      let low = here.first in
      let high = here.last in
      let entry : world.entry_at (w.log s.me) a.index ≡ (stored_at x.log a.index).entry = rw tied.log (entry-is x.log a.index (omega (arith, low, set))) in
      let log_is : world_operations w.table (w.log s.me) ≡ operations x.log =
      ap (λ (l : List Entry). world_operations w.table l) tied.log ∙ operations-whole w.table x.log requests.table_is_distinct (λ k d inside. whole-stored w.table (get_or x.log k d) (holds.bodies k d inside) (stored k d inside)) in
      let may : MayAnswer w s.me a.index a.payload =
      record {
        acts = acts s w x is like;
        applied = rw tied.applied high;
        replier = ap (λ (e : Entry). e.replier) entry ∙ own.own;
        right = ap (λ (ops : List Operation). reply_at ops a.index) log_is ∙ here.payload;
      } in
      let rule = AnswerRule s.me a.index a.payload in
      let v = after w rule in
      let index : index_in a.payload ≡ a.index = index-reply (operations x.log) a.index a.payload (omega (arith, high, fits)) here.payload in
      let reply = reply_from (length w.table) (reply_to a) in
      let sent : reply ≡ reply_with (world.entry_at (w.log s.me) a.index).rid a.index a.payload (length w.table) =
      replies-equal a.payload (length w.table) a.rid (world.entry_at (w.log s.me) a.index).rid (index_in a.payload) a.index (here.rid ∙ ap (λ (e : Entry). e.rid) (sym entry)) index in
      let like_v : IsLike s v x =
      record {
        group = record { size = like.group.size; bound = like.group.bound };
        tied = tied;
        holds = holds-on w.table w.replied v.replied w.reports w.reports s.me x x holds refl refl refl refl (λ r there. inr there) holds.led;
      } in
      way-first s w o done told rule refl may
      (answer-all answers v o done told x first like_v (steps_keep w rule kept may) stored fits set (All-tail (IsAnswer s.me x.log first x.applied) a answers are)
      (λ u like_u kept_u passed same more backed.
      goes u like_u kept_u passed (record { reports = same.reports; table = same.table }) (λ r there. more r (inr there))
      (All-cons (IsBacked s u) (ReplyTo (reply_to a)) (map (λ b. ReplyTo (reply_to b)) answers) (rw same.table (more reply (inl sent))) backed)))
    where
      replies-equal : (payload : List ℕ) (place : ℕ) (r r' : Rid) (i i' : ℕ) → r ≡ r' → i ≡ i' → reply_with r i payload place ≡ reply_with r' i' payload place
      replies-equal payload place r r' i i' p q = cc

-- The first half of a turn --

-- a report, by its parts
abbrev report_with : ℕ → ℕ → ℕ → ℕ → Report
report_with leader term member index = record { leader = leader; term = term; member = member; index = index }

-- replies that are kept after others
kept-all : (P : KeptReply → Type 0) (replies kept : List KeptReply) → All P kept → All P replies → All P (fold kept_with kept replies)
kept-all P [] kept all more = all
kept-all P (reply ∷ replies) kept all more =
    kept-all P replies (kept_with kept reply)
    (All-drop P (length (kept ++ reply ∷ []) - most_kept) (kept ++ reply ∷ []) (All-push P kept reply all (All-head P reply replies more)))
    (All-tail P reply replies more)

-- replies that were sent were made
replied-all : (s : Setup) (w : ProtocolState) (answers : List Answer) → All (IsBacked s w) (map (λ a. ReplyTo (reply_to a)) answers) → All (WasReplied w.replied) (map reply_to answers)
replied-all s w [] all = All-nil (WasReplied w.replied)
replied-all s w (a ∷ answers) all =
    All-cons (WasReplied w.replied) (reply_to a) (map reply_to answers)
    (record { place = length w.table; made = All-head (IsBacked s w) (ReplyTo (reply_to a)) (map (λ b. ReplyTo (reply_to b)) answers) all })
    (replied-all s w answers (All-tail (IsBacked s w) (ReplyTo (reply_to a)) (map (λ b. ReplyTo (reply_to b)) answers) all))

-- replies stay made
replies-again : (s : Setup) (u y : ProtocolState) (answers : List Answer) → y.table ≡ u.table → y.replied ≡ u.replied
    → All (IsBacked s u) (map (λ a. ReplyTo (reply_to a)) answers) → All (IsBacked s y) (map (λ a. ReplyTo (reply_to a)) answers)
replies-again s u y [] table replied all = All-nil (IsBacked s y)
replies-again s u y (a ∷ answers) table replied all =
    All-cons (IsBacked s y) (ReplyTo (reply_to a)) (map (λ b. ReplyTo (reply_to b)) answers)
    (rw (table, replied) (All-head (IsBacked s u) (ReplyTo (reply_to a)) (map (λ b. ReplyTo (reply_to b)) answers) all))
    (replies-again s u y answers table replied (All-tail (IsBacked s u) (ReplyTo (reply_to a)) (map (λ b. ReplyTo (reply_to b)) answers) all))

-- a member that applied so many entries
abbrev final : Member → ℕ → Service → List KeptReply → Member
final m count service kept =
    record m { applied = m.applied + count; pending = 0; service = service; kept = kept }

module _ (s : Setup) (is : IsSetup s) (w : ProtocolState) (m : Member) (stands : Stands s w m) (service : Service) where
  -- a leader knows how far it applied itself
  report-way : (v : ProtocolState) (o : List Sending) (done : List WorldPassed) (count : ℕ) (kept : List KeptReply) (r : MemberRole) → m.role ≡ r
      → IsLike s v (final m count service kept) → v.passed ≡ done → v.reports ≡ w.reports
      → ((u : ProtocolState) → u.table ≡ v.table → u.replied ≡ v.replied → All (IsBacked s u) o)
      → IsWay s v (record { member = reported s (final m count service kept) r; keep = 0; sends = o }) done
      (own_report s.me (reported s (final m count service kept) r) r w.reports)
  report-way v o done count kept member.Leader e like passed reports backed =
      let x = final m count service kept in
      let tied = like.tied in
      let holds = like.holds in
      let shown = stands.shown in
      let lead_is = leading s is m shown.sound e in
      let u = after v (NoteOwnReport s.me) in
      let n = reported s x member.Leader in
      let out : Outcome = record { member = n; keep = 0; sends = o } in
      let report : report_with s.me (v.term s.me) s.me (v.applied s.me) ≡ report_with s.me m.term s.me x.applied = reports-equal s.me (v.term s.me) m.term (v.applied s.me) x.applied tied.term tied.applied in
      let told : u.reports ≡ report_with s.me m.term s.me x.applied ∷ w.reports = ap (λ (y : Report). y ∷ v.reports) report ∙ ap (λ (l : List Report). report_with s.me m.term s.me x.applied ∷ l) reports in
      way-first s v out done (report_with s.me m.term s.me x.applied ∷ w.reports) (NoteOwnReport s.me) refl
      (record { acts = acts s v x is like; leads = rw (tied.role, e) refl })
      (subst (λ (l : List Report). IsWay s u out done l) told (subst (λ (p : List WorldPassed). IsWay s u out p u.reports) passed
      (way-end s u out
      (record {
        group = record { size = like.group.size; bound = like.group.bound };
        tied = tie-rest (member_of v s.me) x x.silent x.pending x.pool x.unfinished x.kept x.service x.lead.next n.lead.queues tied;
        holds =
            holds-on v.table v.replied v.replied v.reports u.reports s.me x n holds refl refl refl refl (λ r there. there)
            (subst (λ (l : List Report). IsLed l s.me n) (ap (λ (y : Report). y ∷ v.reports) (sym report))
            (led-report s v.reports s.me x x.lead s.me x.applied is lead_is is.own refl holds.led));
      })
      (backed u refl refl))))
    where
      reports-equal : (me t t' i i' : ℕ) → t ≡ t' → i ≡ i' → report_with me t me i ≡ report_with me t' me i'
      reports-equal me t t' i i' p q = cc
  report-way v o done count kept member.Follower e like passed reports backed =
      let out : Outcome = record { member = final m count service kept; keep = 0; sends = o } in
      subst (λ (l : List Report). IsWay s v out done l) reports (subst (λ (p : List WorldPassed). IsWay s v out p v.reports) passed (way-end s v out like (backed v refl refl)))
  report-way v o done count kept member.Candidate e like passed reports backed =
      let out : Outcome = record { member = final m count service kept; keep = 0; sends = o } in
      subst (λ (l : List Report). IsWay s v out done l) reports (subst (λ (p : List WorldPassed). IsWay s v out p v.reports) passed (way-end s v out like (backed v refl refl)))

  -- so many entries are applied, and these are the answers
  half-way : (count : ℕ) (answers : List Answer) → m.applied + count ≤ m.commit → AreAnswers s.me m.log (m.applied + 1) (m.applied + count) answers
      → IsWay s w (record { member = reported s (final m count service (fold kept_with m.kept (map reply_to answers))) m.role; keep = 0; sends = map (λ a. ReplyTo (reply_to a)) answers })
      (done_by s.me (m.applied + 1) (take count (drop m.applied m.log)) ++ w.passed)
      (own_report s.me (reported s (final m count service (fold kept_with m.kept (map reply_to answers))) m.role) m.role w.reports)
  half-way count answers low are =
      let shown = stands.shown in
      let sound = shown.sound in
      let committed = sound.committed in
      let valid = sound.durable in
      let like = like_of s w m shown in
      let total = m.applied + count in
      let kept = fold kept_with m.kept (map reply_to answers) in
      let stored : All IsStored m.log = λ k d inside. (valid.log k d inside).stored in
      let done = done_by s.me (m.applied + 1) (take count (drop m.applied m.log)) ++ w.passed in
      let told = own_report s.me (reported s (final m count service kept) m.role) m.role w.reports in
      let sends = map (λ a. ReplyTo (reply_to a)) answers in
      let out : Outcome = record { member = reported s (final m count service kept) m.role; keep = 0; sends = sends } in
      apply-all s is count w out done told m total like stands.kept refl low (omega (arith, low, committed))
      (λ v like_v kept_v passed same.
      let x : Member = record m { applied = total } in
      answer-all s is answers v out done told x (m.applied + 1) like_v kept_v stored (fits total m.log valid.log (omega (arith, low, committed))) (omega arith) are.each
      (λ u like_u kept_u passed_u same_u more backed.
      let holds = like_u.holds in
      let like_x : IsLike s u (final m count service kept) =
      record {
        group = like_u.group;
        tied = tie-rest (member_of u s.me) x m.silent 0 m.pool m.unfinished kept service m.lead.next m.lead.queues like_u.tied;
        holds = record {
          bodies = holds.bodies;
          pool = holds.pool;
          kept = kept-all (WasReplied u.replied) (map reply_to answers) m.kept holds.kept (replied-all s u answers backed);
          led = holds.led;
          unfinished = holds.unfinished;
        };
      } in
      report-way u sends done count kept m.role refl like_x (passed_u ∙ passed) (same_u.reports ∙ same.reports)
      (λ y table replied. replies-again s u y answers table replied backed)))
    where
      fits : (total : ℕ) (log : List Stored) → IsLog log → total ≤ length log → total < 2 ^ 64
      fits total log is_log inside = (let limits = IsLog-limits log is_log in let entries = limits.entries in omega (arith, entries, inside))

-- what is due is what was pending, or is set aside now
due-is : (m : Member) → due m ≡ record m { pending = (due m).pending }
unfolding due batched
due-is m = by (m.pending == 0)
  where
    by : (b : Bool) → (if b then batched m else m) ≡ record m { pending = (if b then batched m else m).pending }
    by true = refl
    by false = refl

due-low : (s : Setup) (m : Member) → IsSetup s → IsSound s m → m.applied + (due m).pending ≤ m.commit
unfolding due batched
due-low s m is sound = by (m.pending == 0) sound.batch
  where
    by : (b : Bool) → m.applied + m.pending ≤ m.commit → m.applied + (if b then batched m else m).pending ≤ m.commit
    by true batch = omega (arith, batch)
    by false batch = batch

-- the member after the first half, by what was due
finished-is : (s : Setup) (m : Member) (kept : List KeptReply) → (finished s m).member.kept ≡ kept
    → (finished s m).member ≡ reported s (final m (due m).pending (executed_batch s (due m)).service kept) m.role
unfolding finished applied
finished-is s m kept e =
    let d = due m in
    let service = (executed_batch s d).service in
    let old = fold kept_with d.kept (map reply_to (executed_batch s d).answers) in
    let build = λ (x : Member). record x { applied = x.applied + d.pending; pending = 0; service = service; kept = old } in
    let first : applied s d ≡ final m d.pending service old = ap build (due-is m) in
    let same : old ≡ kept = sym (reported-kept s (applied s d) m.role) ∙ e in
    ap (λ (x : Member). reported s x m.role) first ∙ ap (λ (k : List KeptReply). reported s (final m d.pending service k) m.role) same
  where
    reported-kept : (s : Setup) (x : Member) (r : MemberRole) → (reported s x r).kept ≡ x.kept
    reported-kept s x member.Leader = refl
    reported-kept s x member.Follower = refl
    reported-kept s x member.Candidate = refl

finished-role : (s : Setup) (m : Member) → (finished s m).member.role ≡ m.role
unfolding finished applied due batched
finished-role s m = by m.role (m.pending == 0)
  where
    by : (r : MemberRole) (b : Bool) → (reported s (applied s (if b then batched m else m)) r).role ≡ m.role
    by member.Leader true = refl
    by member.Leader false = refl
    by member.Follower true = refl
    by member.Follower false = refl
    by member.Candidate true = refl
    by member.Candidate false = refl

-- the batch of what is due
pub batch-is : (m : Member) → batch_of (due m) ≡ take (due m).pending (drop m.applied m.log)
batch-is m = ap (λ (d : Member). batch_of d) (due-is m) ∙ plain m.log m.applied (due m).pending
  where
    plain : (log : List Stored) (from count : ℕ) → entries_between log (from + 1) (from + count) ≡ take count (drop from log)
    plain log from count =
        let a : from + count + 1 - (from + 1) ≡ count = omega arith in
        let b : from + 1 - 1 ≡ from = omega arith in
        rw (a, b) refl

pub finish_rules : FinishIsRules
finish_rules s w m stands =
    let shown = stands.shown in
    let is = stands.setup in
    let after_all = finishes s is m shown.sound in
    let law = replies_are_one_thread s m is shown.sound in
    let answers = law.0 in
    let right = law.1 in
    let count = (due m).pending in
    let service = (executed_batch s (due m)).service in
    let kept = fold kept_with m.kept (map reply_to answers) in
    let x = reported s (final m count service kept) m.role in
    let sends = map (λ a. ReplyTo (reply_to a)) answers in
    let same : (finished s m).member ≡ x = finished-is s m kept right.kept in
    let way = half-way s is w m stands service count answers (due-low s m is shown.sound) right.are in
    let done : done_by s.me (m.applied + 1) (take count (drop m.applied m.log)) ≡ passed_by s.me m = ap (λ (l : List Stored). done_by s.me (m.applied + 1) l) (sym (batch-is m)) in
    let steps : IsSteps s w x sends (done_by s.me (m.applied + 1) (take count (drop m.applied m.log)) ++ w.passed) (own_report s.me x m.role w.reports) =
    steps-of s w (record { member = x; keep = 0; sends = sends }) _ _ (subst (IsSound s) same after_all.sound) way in
    let one : IsSteps s w (finished s m).member sends (done_by s.me (m.applied + 1) (take count (drop m.applied m.log)) ++ w.passed) (own_report s.me (finished s m).member m.role w.reports) =
    subst (λ (n : Member). IsSteps s w n sends (done_by s.me (m.applied + 1) (take count (drop m.applied m.log)) ++ w.passed) (own_report s.me n m.role w.reports)) (sym same) steps in
    rw (right.sends, finished-role s m)
    (subst (λ (d : List WorldPassed). IsSteps s w (finished s m).member sends (d ++ w.passed) (own_report s.me (finished s m).member m.role w.reports)) done one)
