-- What the first half of a turn rests on.
use Rattle.std.proofs.Common.{◌≡◌, ◌+◌, ◌^◌, ◌<◌, ◌≤◌, ◌==◌, Bool, true, false, List, [], ◌∷◌, ◌++◌, length, map, refl, sym, ap, subst, ◌∙◌, arith, append_assoc, append-nil}
use Rattle.std.specs.Prelude.{All, fold, if◌then◌else◌}
use Rattle.std.proofs.lemmas.Grind.{flat_map-append}
use Rattle.std.proofs.lemmas.List.{length-map, map_push}
use Rattle.std.proofs.lemmas.List.Elements.{All-head, All-nil, All-cons, All-tail}
use Rattle.std.proofs.lemmas.List.Sums.{fold_push}
use Rattle.r2_base.specs.Limits.{greatest_member, greatest_number}
use Rattle.r2_base.specs.declared.datagram.Datagram.{Datagram}
use Rattle.r2_frag.specs.declared.kept.KeptReply.{KeptReply}
use Rattle.r2_frag.specs.Kept.{kept_with}
use Rattle.r2_frag.specs.Replies.{IsReply}
use Rattle.hc_log.proofs.Logs.{IsLog-limits}
use Rattle.hc_replier.specs.Queues.{Row}
use Rattle.hc_store.specs.State.{IsCountedBelow}
use Rattle.hc_service.specs.declared.answer.Answer.{Answer}
use Rattle.hc_service.proofs.Counts.{own_reads_of-front, writes_of-front}
use Rattle.hc_member.specs.declared.setup.Setup.{Setup}
use Rattle.hc_member.specs.declared.role.Role.TheVariants.{Leader}
use Rattle.hc_member.specs.Finish.{applied, batched, due, executed_batch, finished, reply_to, reported}
use Rattle.hc_member.specs.Member.{Lead, Member}
use Rattle.hc_member.specs.Sending.{Sending, Reply, IsSent, datagrams_of, datagrams_of_all}
use Rattle.hc_member.specs.Setup.{IsSetup}
use Rattle.hc_member.specs.Sound.{IsSound}
use Rattle.hc_node.specs.Sends.{AreSent}
use Rattle.hc_node.proofs.ReportRows.{last-fits}
use Rattle.hc_member.proofs.Finished.{finishes}
use Rattle.hc_member.proofs.ReportRows.{leading}
use Rattle.hc_member.proofs.Settled.{sound-batched}

-- a member with what is due is a sound one that plays the same part
pub record IsDue (s : Setup) (m n : Member) : Type 0 where
  pub sound : IsSound s n
  pub role : n.role ≡ m.role
  pub lead : n.lead ≡ m.lead

pub is-due : (s : Setup) (m : Member) → IsSetup s → IsSound s m → IsDue s m (due m)
unfolding due batched
is-due s m is sound = by (m.pending == 0)
  where
    by : (b : Bool) → IsDue s m (if b then batched m else m)
    by true = record { sound = sound-batched s is m sound; role = refl; lead = refl }
    by false = record { sound = sound; role = refl; lead = refl }

-- neither does its part change with the batch
pub same-part : (s : Setup) (m : Member) → ((applied s m).role ≡ m.role) × ((applied s m).lead ≡ m.lead)
unfolding applied
same-part s m = (refl, refl)

-- a leader has a queue of its own
pub own-queue : (s : Setup) (m : Member) → IsSetup s → IsSound s m → m.role ≡ Leader → s.me < length m.lead.queues
own-queue s m is sound role =
    let lead = leading s is m sound role in
    let each = is.bound_each in
    let own = is.own in
    let sizes = ap length lead.bounds in
    omega (arith, length-map m.lead.queues (λ (row : Row). row.bound), sizes, each, own)

-- what the batch counted so far is few
pub counted-few : (s : Setup) (m : Member) → IsSound s m → IsCountedBelow (2 ^ 59) m.service
counted-few s m sound =
    let valid = sound.durable in
    let limits = IsLog-limits m.log valid.log in
    let service = sound.service in
    let writes = writes_of-front m.applied m.log in
    let reads = own_reads_of-front s.me m.applied m.log in
    record {
      writes = omega (arith, service.writes, writes, limits.requests);
      reads = omega (arith, service.reads, reads, limits.requests);
    }

-- the batch stands in the log, whose indexes fit
pub record BatchFits (s : Setup) (m : Member) : Type 0 where
  pub end : m.applied + m.pending ≤ length m.log
  pub fits : length m.log ≤ greatest_number
  pub me : s.me ≤ greatest_member
  pub few : IsCountedBelow (2 ^ 59) m.service

pub batch-fits : (s : Setup) (m : Member) → IsSetup s → IsSound s m → BatchFits s m
batch-fits s m is sound =
    let batch = sound.batch in
    let committed = sound.committed in
    let own = is.own in
    let few = is.few in
    record {
      end = omega (arith, batch, committed);
      fits = last-fits s m sound;
      me = omega (arith, own, few);
      few = counted-few s m sound;
    }

-- replies that are sent may be
replies-of : (answers : List Answer) → All IsSent (map (λ answer. Reply (reply_to answer)) answers) → All (λ answer. IsReply (reply_to answer)) answers
replies-of [] all = All-nil (λ (a : Answer). IsReply (reply_to a))
replies-of (answer ∷ answers) all =
    All-cons (λ (a : Answer). IsReply (reply_to a)) answer answers
    (All-head IsSent (Reply (reply_to answer)) (map (λ (a : Answer). Reply (reply_to a)) answers) all)
    (replies-of answers (All-tail IsSent (Reply (reply_to answer)) (map (λ (a : Answer). Reply (reply_to a)) answers) all))

pub due-replies : (s : Setup) (m : Member) → IsSetup s → IsSound s m → All (λ answer. IsReply (reply_to answer)) (executed_batch s (due m)).answers
unfolding finished
due-replies s m is sound = replies-of (executed_batch s (due m)).answers (finishes s is m sound).sends

-- one answer more is kept and sent
pub keep-next : (old before after : List KeptReply) (answers : List Answer) (answer : Answer) → before ≡ fold kept_with old (map reply_to answers)
    → after ≡ kept_with before (reply_to answer) → after ≡ fold kept_with old (map reply_to (answers ++ answer ∷ []))
keep-next old before after answers answer so_far more =
    more
    ∙ ap (λ (kept : List KeptReply). kept_with kept (reply_to answer)) so_far
    ∙ sym (fold_push kept_with old (map reply_to answers) (reply_to answer))
    ∙ ap (fold kept_with old) (sym (map_push reply_to answers answer))

pub send-next : (s : Setup) (old before after : List Datagram) (answers : List Answer) (answer : Answer)
    → before ≡ old ++ datagrams_of_all s (map (λ a. Reply (reply_to a)) answers) → after ≡ before ++ datagrams_of s (Reply (reply_to answer))
    → after ≡ old ++ datagrams_of_all s (map (λ a. Reply (reply_to a)) (answers ++ answer ∷ []))
send-next s old before after answers answer so_far more =
    let f : Answer → Sending = λ a. Reply (reply_to a) in
    let sent = datagrams_of_all s (map f answers) in
    let one = datagrams_of s (f answer) in
    more
    ∙ ap (λ (ds : List Datagram). ds ++ one) so_far
    ∙ append_assoc old sent one
    ∙ ap (λ (ds : List Datagram). old ++ (sent ++ ds)) (sym (append-nil one))
    ∙ ap (λ (ds : List Datagram). old ++ ds) (sym (flat_map-append (datagrams_of s) (map f answers) (f answer ∷ [])))
    ∙ ap (λ (xs : List Sending). old ++ datagrams_of_all s xs) (sym (map_push f answers answer))

-- the replies to these answers are kept and sent
pub record KeptAndSent (s : Setup) (old_kept : List KeptReply) (old_sends : List Datagram) (answers : List Answer) (new_kept : List KeptReply)
    (new_sends : List Datagram) : Type 0 where
  pub kept : new_kept ≡ fold kept_with old_kept (map reply_to answers)
  pub sends : new_sends ≡ old_sends ++ datagrams_of_all s (map (λ a. Reply (reply_to a)) answers)

pub next-replied : (s : Setup) (kept : List KeptReply) (sends : List Datagram) (answers : List Answer) (answer : Answer)
    (some_kept next_kept : List KeptReply) (some_sends next_sends : List Datagram) → KeptAndSent s kept sends answers some_kept some_sends
    → next_kept ≡ kept_with some_kept (reply_to answer) → next_sends ≡ some_sends ++ datagrams_of s (Reply (reply_to answer))
    → KeptAndSent s kept sends (answers ++ answer ∷ []) next_kept next_sends
next-replied s kept sends answers answer some_kept next_kept some_sends next_sends so_far more_kept more_sends =
    record {
      kept = keep-next kept some_kept next_kept answers answer so_far.kept more_kept;
      sends = send-next s sends some_sends next_sends answers answer so_far.sends more_sends;
    }

-- what is due, applied
pub record IsApplied (s : Setup) (m n : Member) : Type 0 where
  pub role : n.role ≡ m.role
  pub lead : n.lead ≡ m.lead

pub is-applied : (s : Setup) (m : Member) → IsSetup s → IsSound s m → IsApplied s m (applied s (due m))
is-applied s m is sound =
    let d = is-due s m is sound in
    let part = same-part s (due m) in
    record { role = part.0 ∙ d.role; lead = part.1 ∙ d.lead }

pub queue-after : (s : Setup) (m n : Member) → IsSetup s → IsSound s m → n ≡ applied s (due m) → n.role ≡ Leader → s.me < length n.lead.queues
queue-after s m n is sound e role =
    let did = is-applied s m is sound in
    let leads : m.role ≡ Leader = sym did.role ∙ sym (ap (λ (x : Member). x.role) e) ∙ role in
    let same : n.lead ≡ m.lead = ap (λ (x : Member). x.lead) e ∙ did.lead in
    subst (λ (lead : Lead). s.me < length lead.queues) (sym same) (own-queue s m is sound leads)

-- the first half of a turn, from what was applied
pub finished-is : (s : Setup) (m n new : Member) → IsSetup s → IsSound s m → n ≡ applied s (due m) → new ≡ reported s n n.role → new ≡ (finished s m).member
unfolding finished
finished-is s m n new is sound e r =
    r
    ∙ ap (λ (x : Member). reported s x x.role) e
    ∙ ap (reported s (applied s (due m))) (is-applied s m is sound).role

pub finished-sends : (s : Setup) (m d : Member) (old new : List Datagram) → d ≡ due m
    → AreSent s (map (λ answer. Reply (reply_to answer)) (executed_batch s d).answers) old new → AreSent s (finished s m).sends old new
unfolding finished
finished-sends s m d old new e sent =
    subst (λ (x : Member). AreSent s (map (λ answer. Reply (reply_to answer)) (executed_batch s x).answers) old new) e sent
