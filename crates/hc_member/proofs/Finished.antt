-- The first half of a turn leaves a sound member, and gives one thread's replies.
use Rattle.std.proofs.Common.{◌≡◌, ℕ, ◌+◌, ◌-◌, ◌==◌, Bool, true, false, List, [], ◌∷◌, ◌++◌, length, map, take, refl, sym, ap, subst, ◌∙◌, arith, ◌≤◌}
use Rattle.std.specs.Prelude.{if◌then◌else◌, fold, All}
use Rattle.std.specs.FinMap as finite
use Rattle.std.proofs.lemmas.List.Elements.{All-cons, All-drop, All-head, All-push, All-tail}
use Rattle.r2_frag.specs.declared.kept.KeptReply.{KeptReply}
use Rattle.r2_frag.specs.Kept.{kept_with, most_kept}
use Rattle.hc_log.specs.declared.stored.Stored.{Stored}
use Rattle.hc_log.specs.Log.{IsLog}
use Rattle.hc_log.proofs.Logs.{IsLog-take}
use Rattle.hc_log.specs.Durable.{State}
use Rattle.hc_store.specs.State.{State as Service}
use Rattle.hc_store.specs.Short.{AreShort}
use Rattle.hc_store.proofs.Short.{log_short, no_values}
use Rattle.hc_member.specs.declared.setup.Setup.{Setup}
use Rattle.hc_member.specs.declared.role.Role.{Role}
use Rattle.hc_member.specs.declared.role.Role.TheVariants.{Follower, Candidate, Leader}
use Rattle.hc_member.specs.Setup.{IsSetup}
use Rattle.hc_service.specs.declared.answer.Answer.{Answer}
use Rattle.hc_member.specs.Finish.{applied, batched, due, executed_batch, finished, reply_to, reported}
use Rattle.hc_service.specs.Laws.{AreAnswers}
use Rattle.hc_member.specs.Laws.{RepliesAreOneThread}
use Rattle.hc_member.specs.Member.{Member, durable_of}
use Rattle.hc_service.specs.Entries.{IsReplayed, operations}
use Rattle.hc_member.specs.Reports.{with_report}
use Rattle.hc_member.specs.Sending.{Reply, IsSent}
use Rattle.hc_member.specs.Sound.{IsRightReply, IsSound}
use Rattle.hc_member.proofs.Answers.{bodies-short, right-is_reply}
use Rattle.hc_member.proofs.Batches.{answers-right, batch-answers, batch-replayed}
use Rattle.hc_member.proofs.Prefixes.{kept-front}
use Rattle.hc_member.proofs.Leads.{leads-report}
use Rattle.hc_member.proofs.ReportRows.{leading, sound-lead}
use Rattle.hc_member.proofs.Settled.{sound-batched}

-- replies that are kept after others
kept-all : (P : KeptReply → Type 0) (replies kept : List KeptReply) → All P kept → All P replies → All P (fold kept_with kept replies)
kept-all P [] kept all more = all
kept-all P (reply ∷ replies) kept all more =
    kept-all P replies (kept_with kept reply)
    (All-drop P (length (kept ++ reply ∷ []) - most_kept) (kept ++ reply ∷ []) (All-push P kept reply all (All-head P reply replies more)))
    (All-tail P reply replies more)

-- what one thread keeps after entries of a log is short
replayed-short : (me : ℕ) (log : List Stored) (service : Service) → IsLog log → IsReplayed me log service → AreShort service.contents
replayed-short me log service is_log is =
    subst AreShort (sym is.contents) (log_short finite.empty (operations log) no_values (bodies-short log is_log))

module _ (s : Setup) (is : IsSetup s) where
  -- what sets a batch aside leaves
  record SameMember (m n : Member) : Type 0 where
    sound : IsSound s n
    durable : durable_of n ≡ durable_of m
    applied : n.applied ≡ m.applied
    kept : n.kept ≡ m.kept
    role : n.role ≡ m.role
    commit : n.commit ≡ m.commit

  due-by : (b : Bool) (m : Member) → IsSound s m → SameMember m (if b then batched m else m)
  unfolding batched
  due-by true m sound = record { sound = sound-batched s is m sound; durable = refl; applied = refl; kept = refl; role = refl; commit = refl }
  due-by false m sound = record { sound = sound; durable = refl; applied = refl; kept = refl; role = refl; commit = refl }

  due-same : (m : Member) → IsSound s m → SameMember m (due m)
  unfolding due
  due-same m sound = due-by (m.pending == 0) m sound

  -- the answers of a sound member's batch
  batch-are : (m : Member) → IsSound s m → AreAnswers s.me m.log (m.applied + 1) (m.applied + m.pending) (executed_batch s m).answers
  batch-are m sound =
      let batch_fits = sound.batch in
      let committed = sound.committed in
      batch-answers s.me m.log m.applied m.pending m.service (omega (arith, batch_fits, committed)) sound.service

  right-batch : (m : Member) → IsSound s m → All (IsRightReply s.me (m.applied + m.pending) m.log) (map reply_to (executed_batch s m).answers)
  right-batch m sound =
      let batch_fits = sound.batch in
      let committed = sound.committed in
      answers-right s.me m.applied m.pending m.log (executed_batch s m).answers (omega (arith, batch_fits, committed)) (batch-are m sound)

  sound-applied : (m : Member) → IsSound s m → IsSound s (applied s m)
  unfolding applied
  sound-applied m sound =
      let did = batch-replayed s.me m.log m.applied m.pending m.service sound.service in
      let valid = sound.durable in
      let batch_fits = sound.batch in
      let new = m.applied + m.pending in
      record {
        durable = sound.durable;
        batch = omega (arith, batch_fits);
        committed = sound.committed;
        matched = sound.matched;
        pool = sound.pool;
        apart = sound.apart;
        unfinished = sound.unfinished;
        values = replayed-short s.me (take new m.log) (executed_batch s m).service (IsLog-take new m.log valid.log) did;
        service = did;
        kept =
            kept-all (IsRightReply s.me new m.log) (map reply_to (executed_batch s m).answers) m.kept
            (kept-front s.me m.applied new m.applied m.log m.log m.kept (omega arith) (omega arith) refl sound.kept) (right-batch m sound);
        role = sound.role;
      }

  sound-reported : (m : Member) (role : Role) → m.role ≡ role → IsSound s m → IsSound s (reported s m role)
  sound-reported m Leader e sound =
      sound-lead s is m (with_report m.lead s.me m.applied) sound e (leads-report s is m.term (length m.log) m.lead (leading s is m sound e) s.me m.applied is.own)
  sound-reported m Follower e sound = sound
  sound-reported m Candidate e sound = sound

  reported-durable : (m : Member) (role : Role) → durable_of (reported s m role) ≡ durable_of m
  reported-durable m Leader = refl
  reported-durable m Follower = refl
  reported-durable m Candidate = refl

  reported-kept : (m : Member) (role : Role) → (reported s m role).kept ≡ m.kept
  reported-kept m Leader = refl
  reported-kept m Follower = refl
  reported-kept m Candidate = refl

  reported-progress : (m : Member) (role : Role) → ((reported s m role).commit ≡ m.commit) × ((reported s m role).applied ≡ m.applied)
  reported-progress m Leader = (refl, refl)
  reported-progress m Follower = (refl, refl)
  reported-progress m Candidate = (refl, refl)

  applied-progress : (m : Member) → ((applied s m).commit ≡ m.commit) × ((applied s m).applied ≡ m.applied + m.pending)
  unfolding applied
  applied-progress m = (refl, refl)

  applied-parts : (m : Member) → (durable_of (applied s m) ≡ durable_of m) × ((applied s m).role ≡ m.role) × ((applied s m).kept ≡ fold kept_with m.kept (map reply_to (executed_batch s m).answers))
  unfolding applied
  applied-parts m = (refl, refl, refl)

  sent-replies : (m : Member) (answers : List Answer) → IsSound s m → All (IsRightReply s.me (m.applied + m.pending) m.log) (map reply_to answers)
      → All IsSent (map (λ answer. Reply (reply_to answer)) answers)
  sent-replies m [] sound right = λ k d none. absurd (omega (arith, none))
  sent-replies m (answer ∷ answers) sound right =
      let valid = sound.durable in
      let P = IsRightReply s.me (m.applied + m.pending) m.log in
      let here = right-is_reply s.me (m.applied + m.pending) m.log (reply_to answer) valid.log (All-head P (reply_to answer) (map reply_to answers) right) in
      All-cons IsSent (Reply (reply_to answer)) (map (λ x. Reply (reply_to x)) answers) here
      (sent-replies m answers sound (All-tail P (reply_to answer) (map reply_to answers) right))

  -- the first half of a turn
  pub record Finishes (m : Member) : Type 0 where
    pub sound : IsSound s (finished s m).member
    pub durable : durable_of (finished s m).member ≡ durable_of m
    pub commit : (finished s m).member.commit ≡ m.commit
    pub applied : m.applied ≤ (finished s m).member.applied
    pub sends : All IsSent (finished s m).sends

  pub finishes : (m : Member) → IsSound s m → Finishes m
  unfolding finished
  finishes m sound =
      let same = due-same m sound in
      let d = due m in
      let parts = applied-parts d in
      let role : (applied s d).role ≡ m.role = parts.1 ∙ same.role in
      record {
        sound = sound-reported (applied s d) m.role role (sound-applied d same.sound);
        durable = reported-durable (applied s d) m.role ∙ parts.0 ∙ same.durable;
        commit = (reported-progress (applied s d) m.role).0 ∙ (applied-progress d).0 ∙ same.commit;
        applied = (let more = (reported-progress (applied s d) m.role).1 ∙ (applied-progress d).1 in let here = same.applied in omega (arith, more, here));
        sends = sent-replies d (executed_batch s d).answers same.sound (right-batch d same.sound);
      }

-- a sound member answers as one thread would
pub replies_are_one_thread : RepliesAreOneThread
unfolding finished
replies_are_one_thread s m is sound =
    let same = due-same s is m sound in
    let d = due m in
    let parts = applied-parts s is d in
    let answers = (executed_batch s d).answers in
    let log : d.log ≡ m.log = ap (λ (x : State). x.log) same.durable in
    let are = batch-are s is d same.sound in (
      answers,
      record {
        are =
            subst (λ (i : ℕ). AreAnswers s.me m.log (i + 1) (i + d.pending) answers) same.applied
            (subst (λ (l : List Stored). AreAnswers s.me l (d.applied + 1) (d.applied + d.pending) answers) log are);
        sends = refl;
        kept =
            reported-kept s is (applied s d) m.role ∙ parts.2
            ∙ ap (λ (k : List KeptReply). fold kept_with k (map reply_to answers)) same.kept;
      },
    )
