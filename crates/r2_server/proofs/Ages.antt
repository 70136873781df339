-- The requests that age are the unfinished ones under JBSQ, each since the tick at which it began.
use Rattle.std.proofs.Common.{◌≡◌, ◌+◌, ◌==◌, ◌∙◌, ltb, inl, inr, ℕ, Bool, true, false, cond, length, List, [], ◌∷◌, drop, Option, Some, None, refl, sym, ap, subst, arith}
use Rattle.std.specs.Prelude.{Result, Ok, Err}
use Rattle.std.specs.List.{All}
use Rattle.std.proofs.lemmas.Bool.{cases_Bool}
use Rattle.std.proofs.lemmas.List.Elements.{All-head, All-nil, All-tail}
use Rattle.std.proofs.lemmas.List.Sums.{sum_by-cons}
use Rattle.r2_base.specs.declared.addr.Addr.{Addr}
use Rattle.r2_base.specs.declared.datagram.Datagram.{Datagram}
use Rattle.r2_base.specs.declared.event.Event.{Event}
use Rattle.r2_base.specs.declared.event.Event.TheVariants.{Datagram as DatagramEvent, Tick, Quiet}
use Rattle.r2_header.specs.declared.header.Header.{Header}
use Rattle.r2_header.specs.declared.header_fault.HeaderFault.{HeaderFault}
use Rattle.r2_header.specs.declared.packet.Packet.{Packet}
use Rattle.r2_header.specs.declared.packet.Packet.TheVariants as packet
use Rattle.r2_header.specs.Policy.{jbsq}
use Rattle.r2_header.specs.Reading.{header_at}
use Rattle.r2_frag.specs.declared.added.Added.{Added}
use Rattle.r2_frag.specs.declared.added.Added.TheVariants.{Bad, Dropped, More, Repeat, Whole}
use Rattle.r2_frag.specs.declared.added.Why.{Why}
use Rattle.r2_frag.specs.declared.added.Why.TheVariants.{Length, Count}
use Rattle.r2_frag.specs.declared.kept.KeptReply.{KeptReply}
use Rattle.r2_frag.specs.declared.key.Key.{Key}
use Rattle.r2_frag.specs.declared.part_count.PartCount.{PartCount}
use Rattle.r2_frag.specs.declared.unfinished.Unfinished.{Unfinished}
use Rattle.r2_frag.specs.Assembly.{added, begin as begin_message, contradicts, count_said, go_on, is_begun, least_count, length_fits, message_under, number_of, refusal, with_part, without}
use Rattle.r2_frag.specs.Keys.{key_at}
use Rattle.r2_frag.specs.Kept.{newest}
use Rattle.r2_frag.specs.Pending.{AreDistinct}
use Rattle.r2_frag.proofs.OneBody.{key-next}
use Rattle.r2_frag.proofs.Outcomes.{All-without, left, outcome}
use Rattle.r2_server.specs.declared.timers.Timer.{Timer}
use Rattle.r2_server.specs.Ages.{RequestsAgeRight, ageing, began, is_jbsq, is_tick, jbsq_keys, state_after, ticks_in, timer_keys}
use Rattle.r2_server.specs.Sound.{IsSound}
use Rattle.r2_server.specs.State.{ServerState}
use Rattle.r2_server.specs.Timers.{due, given_up, key_for, not_due, started_for, stopped_for}
use Rattle.r2_server.specs.Turn.{answered, by_answer, first_part, is_taken, part_added, part_taken, received, received_as, received_part, repeated, replied, ticked, turned, turned_by, unchanged}
use Rattle.r2_server.proofs.Ageing.{IsKnown, ageing-begun, ageing-due, ageing-going, ageing-put, ageing-same, ageing-without, begun-others, each-begun, without-first}
use Rattle.r2_server.proofs.Choices.{branch}
use Rattle.r2_server.proofs.Sound.{begin_sound, turned_sound}
use Rattle.r2_server.proofs.Taken.{taken-known}

-- each unfinished message under JBSQ is a request, and those that age are these
pub record Ages (since : Key → ℕ) (s : ServerState) : Type 0 where
  pub known : All IsKnown s.unfinished
  pub same : s.timers ≡ ageing since s.unfinished

-- a key under JBSQ is a request's
abbrev IsKnownKey : Key → Type 0
IsKnownKey key = (key.policy == jbsq) ≡ true → key ≡ key_for key.rid

-- what holds of the answers to parts that are refused
refused_answers : (P : Added → Type 0) (count : PartCount) (is_kept : Bool) (h : Header) (payload : List ℕ) (answer : Added) → ((why : Why) → P (Bad why)) → P Repeat
    → refusal count is_kept h payload ≡ Some answer → P answer
unfolding refusal
refused_answers P count is_kept h payload answer bad repeat e =
    elim (cases_Bool (length_fits h payload)) [
      | inr short ↦
          (let known : Some (Bad (Length (number_of h) (length payload))) ≡ Some answer = rw short at e in
          let same : Bad (Length (number_of h) (length payload)) ≡ answer = cc in
          subst P same (bad (Length (number_of h) (length payload))))
      | inl fits ↦
          elim (cases_Bool (contradicts count (count_said h))) [
            | inl t ↦
                (let known : Some (Bad (Count (least_count count) (least_count (count_said h)))) ≡ Some answer = rw (fits, t) at e in
                let same : Bad (Count (least_count count) (least_count (count_said h))) ≡ answer = cc in
                subst P same (bad (Count (least_count count) (least_count (count_said h)))))
            | inr f ↦
                elim (cases_Bool is_kept) [
                  | inl k ↦
                      (let known : Some Repeat ≡ Some answer = rw (fits, f, k) at e in
                      let same : Repeat ≡ answer = cc in
                      subst P same repeat)
                  | inr k ↦ (let never = rw (fits, f, k) at e in cc)
                ]
          ]
    ]

-- the timers after the answer to a part
abbrev timers_by : Key → ℕ → List Timer → Added → List Timer
timers_by key tick timers More = started_for key tick timers
timers_by key tick timers Repeat = timers
timers_by key tick timers (Dropped oldest) = started_for key tick (stopped_for oldest timers)
timers_by key tick timers (Whole body) = stopped_for key timers
timers_by key tick timers (Bad why) = timers

module _ (since : Key → ℕ) (tick : ℕ) (timers : List Timer) where
  -- a message that begins
  begun_ages : (next : Unfinished) (messages : List Unfinished) → timers ≡ ageing since messages → All IsKnown messages → AreDistinct messages → IsKnown next
      → is_begun next.key messages ≡ false → since next.key ≡ tick → timers_by next.key tick timers (begin_message next messages).0 ≡ ageing since (begin_message next messages).1
  unfolding begin_message
  begun_ages next [] same all d known new now =
      let first = ageing-begun since next [] known all new in
      ap (λ (ts : List Timer). started_for next.key tick ts) same ∙ ap (λ (n : ℕ). started_for next.key n []) (sym now) ∙ sym first
  begun_ages next (m ∷ rest) same all d known new now =
      elim (cases_Bool (ltb (length (m ∷ rest)) 256)) [
        | inl t ↦
            (let first = ageing-begun since next (m ∷ rest) known all new in
            rw t (ap (λ (ts : List Timer). started_for next.key tick ts) same ∙ ap (λ (n : ℕ). started_for next.key n (ageing since (m ∷ rest))) (sym now) ∙ sym first))
        | inr f ↦
            (let behind = All-tail IsKnown m rest all in
            let gone : ageing since rest ≡ stopped_for m.key (ageing since (m ∷ rest)) =
            ap (ageing since) (sym (without-first m rest)) ∙ ageing-without since m.key (m ∷ rest) (All-head IsKnown m rest all) d all in
            let first = ageing-begun since next rest known behind (begun-others next.key m rest new) in
            rw f (ap (λ (ts : List Timer). started_for next.key tick (stopped_for m.key ts)) same ∙ ap (λ (ts : List Timer). started_for next.key tick ts) (sym gone) ∙ ap (λ (n : ℕ). started_for next.key n (ageing since rest)) (sym now) ∙ sym first))
      ]

  -- a message that goes on, or begins
  going_ages : (next : Unfinished) (messages : List Unfinished) → timers ≡ ageing since messages → All IsKnown messages → AreDistinct messages → IsKnown next
      → (is_begun next.key messages ≡ false → since next.key ≡ tick) → timers_by next.key tick timers (go_on next messages).0 ≡ ageing since (go_on next messages).1
  unfolding go_on
  going_ages next messages same all d known now =
      elim (cases_Bool (is_begun next.key messages)) [
        | inl t ↦
            rw t (ap (λ (ts : List Timer). started_for next.key tick ts) same ∙ ageing-going since next.key tick messages t ∙ sym (ageing-put since next messages))
        | inr f ↦ rw f (begun_ages next messages same all d known f (now f))
      ]

  -- a part that is added
  added_ages : (messages : List Unfinished) (key : Key) (h : Header) (payload : List ℕ) → timers ≡ ageing since messages → All IsKnown messages → AreDistinct messages
      → IsKnownKey key → (is_begun key messages ≡ false → since key ≡ tick) → timers_by key tick timers (added messages key h payload).0 ≡ ageing since (added messages key h payload).1
  added_ages messages key h payload same all d known now =
      let next : Unfinished = with_part (message_under key messages) h payload in
      let owner : next.key ≡ key = key-next key messages h payload in
      let P : Added × List Unfinished → Type 0 = λ r. timers_by key tick timers r.0 ≡ ageing since r.1 in
      outcome P messages key h payload
      (λ answer e. refused_answers (λ (a : Added). timers_by key tick timers a ≡ ageing since messages) _ _ h payload answer (λ why. same) same e)
      (λ body good e.
      ap (stopped_for key) same ∙ sym (ageing-without since key messages known d all) ∙ ap (λ (k : Key). ageing since (without k messages)) (sym owner))
      (λ good e.
      subst (λ (k : Key). timers_by k tick timers (go_on next messages).0 ≡ ageing since (go_on next messages).1) owner
      (going_ages next messages same all d (subst IsKnownKey (sym owner) known) (subst (λ (k : Key). is_begun k messages ≡ false → since k ≡ tick) (sym owner) now)))

-- the messages of requests stay those of requests
added_known : (messages : List Unfinished) (key : Key) (h : Header) (payload : List ℕ) → All IsKnown messages → IsKnownKey key → All IsKnown (added messages key h payload).1
added_known messages key h payload all known =
    left IsKnown messages key h payload all (λ good e. subst IsKnownKey (sym (key-next key messages h payload)) known)

given_up_known : (late : List Timer) (messages : List Unfinished) → All IsKnown messages → All IsKnown (given_up late messages)
unfolding given_up
given_up_known [] messages all = all
given_up_known (t ∷ late) messages all = given_up_known late (without (key_for t.rid) messages) (All-without IsKnown (key_for t.rid) messages all)

module _ (since : Key → ℕ) where
  -- a server that was answered for keeps its messages and timers
  answered_ages : (s : ServerState) (key : Key) (body : List ℕ) (o : Option KeptReply) → Ages since s → Ages since (answered s key body o).server
  unfolding repeated replied
  answered_ages s key body None a = record { known = a.known; same = a.same }
  answered_ages s key body (Some reply) a = a

  by_answer_ages : (s : ServerState) (type : Packet) (key : Key) (a : Added) → All IsKnown s.unfinished → timers_by key s.ticks s.timers a ≡ ageing since s.unfinished
      → Ages since (by_answer s type key a).server
  by_answer_ages s type key More all e = record { known = all; same = e }
  by_answer_ages s type key Repeat all e = record { known = all; same = e }
  by_answer_ages s type key (Dropped oldest) all e = record { known = all; same = e }
  by_answer_ages s type key (Whole body) all e =
      answered_ages (record s { timers = stopped_for key s.timers }) key body (newest key.rid s.kept) (record { known = all; same = e })
  by_answer_ages s type key (Bad why) all e = record { known = all; same = e }

  part_added_ages : (s : ServerState) (h : Header) (payload : List ℕ) (key : Key) → Ages since s → AreDistinct s.unfinished → IsKnownKey key
      → (is_begun key s.unfinished ≡ false → since key ≡ s.ticks) → Ages since (part_added s h payload key).server
  unfolding part_added
  part_added_ages s h payload key a d known now =
      by_answer_ages (record s { unfinished = (added s.unfinished key h payload).1 }) h.packet key (added s.unfinished key h payload).0
      (added_known s.unfinished key h payload a.known known)
      (added_ages since s.ticks s.timers s.unfinished key h payload a.same a.known d known now)

  first_part_ages : (s : ServerState) (h : Header) (payload : List ℕ) (key : Key) (o : Option KeptReply) → Ages since s → AreDistinct s.unfinished → IsKnownKey key
      → (is_begun key s.unfinished ≡ false → since key ≡ s.ticks) → Ages since (first_part s h payload key o).server
  unfolding repeated
  first_part_ages s h payload key None a d known now = part_added_ages s h payload key a d known now
  first_part_ages s h payload key (Some reply) a d known now = a

  part_taken_ages : (s : ServerState) (h : Header) (payload : List ℕ) (key : Key) (type : Packet) → Ages since s → AreDistinct s.unfinished → IsKnownKey key
      → (is_begun key s.unfinished ≡ false → since key ≡ s.ticks) → Ages since (part_taken s h payload key type).server
  part_taken_ages s h payload key packet.Req0 a d known now = first_part_ages s h payload key (newest key.rid s.kept) a d known now
  part_taken_ages s h payload key packet.ReqN a d known now = part_added_ages s h payload key a d known now
  part_taken_ages s h payload key packet.Reply a d known now = part_added_ages s h payload key a d known now
  part_taken_ages s h payload key packet.ReqRdy a d known now = part_added_ages s h payload key a d known now
  part_taken_ages s h payload key packet.Feedback a d known now = part_added_ages s h payload key a d known now
  part_taken_ages s h payload key packet.Reject a d known now = part_added_ages s h payload key a d known now
  part_taken_ages s h payload key packet.Ordering a d known now = part_added_ages s h payload key a d known now
  part_taken_ages s h payload key packet.Recover a d known now = part_added_ages s h payload key a d known now

  received_part_ages : (s : ServerState) (from : Addr) (h : Header) (payload : List ℕ) (o : Option Key) → Ages since s → AreDistinct s.unfinished
      → ((key : Key) → o ≡ Some key → is_taken s.router from h h.packet ≡ true → IsKnownKey key)
      → ((key : Key) → is_begun key s.unfinished ≡ false → since key ≡ s.ticks) → Ages since (received_part s from h payload o).server
  received_part_ages s from h payload None a d known now = a
  received_part_ages s from h payload (Some key) a d known now =
      branch (λ t. Ages since t.server) (is_taken s.router from h h.packet) (part_taken s h payload key h.packet) (unchanged s)
      (λ e. part_taken_ages s h payload key h.packet a d (known key refl e) (now key)) (λ e. a)

  received_as_ages : (s : ServerState) (d : Datagram) (r : Result (Header × ℕ) HeaderFault) → Ages since s → AreDistinct s.unfinished
      → ((key : Key) → is_begun key s.unfinished ≡ false → since key ≡ s.ticks) → Ages since (received_as s d r).server
  received_as_ages s d (Err fault) a distinct now = a
  received_as_ages s d (Ok (h, size)) a distinct now =
      received_part_ages s d.from h (drop size d.bytes) (key_at d.from d.to h) a distinct (λ key f t. taken-known s.router d.from d.to h key f t) now

  -- a turn leaves the timers right, where the ages are those after it
  turned_by_ages : (s : ServerState) (event : Event) → Ages since s → AreDistinct s.unfinished
      → ((key : Key) → is_begun key s.unfinished ≡ false → since key ≡ s.ticks) → Ages since (turned_by s event).server
  unfolding received ticked
  turned_by_ages s (DatagramEvent d) a distinct now = received_as_ages s d (header_at d.bytes) a distinct now
  turned_by_ages s Tick a distinct now =
      let late : List Timer = due (s.ticks + 1) s.timers in
      record {
        known = given_up_known late s.unfinished a.known;
        same =
            ap (not_due (s.ticks + 1)) a.same
            ∙ sym (ageing-due since (s.ticks + 1) s.unfinished distinct a.known)
            ∙ ap (λ (ts : List Timer). ageing since (given_up (due (s.ticks + 1) ts) s.unfinished)) (sym a.same);
      }
  turned_by_ages s Quiet a distinct now = a

-- how many ticks a turn counts
module _ (n : ℕ) where
  answered_ticks : (s : ServerState) (key : Key) (body : List ℕ) (o : Option KeptReply) → s.ticks ≡ n → (answered s key body o).server.ticks ≡ n
  unfolding repeated replied
  answered_ticks s key body None e = e
  answered_ticks s key body (Some reply) e = e

  by_answer_ticks : (s : ServerState) (type : Packet) (key : Key) (a : Added) → s.ticks ≡ n → (by_answer s type key a).server.ticks ≡ n
  by_answer_ticks s type key More e = e
  by_answer_ticks s type key Repeat e = e
  by_answer_ticks s type key (Dropped oldest) e = e
  by_answer_ticks s type key (Whole body) e = answered_ticks (record s { timers = stopped_for key s.timers }) key body (newest key.rid s.kept) e
  by_answer_ticks s type key (Bad why) e = e

  part_added_ticks : (s : ServerState) (h : Header) (payload : List ℕ) (key : Key) → s.ticks ≡ n → (part_added s h payload key).server.ticks ≡ n
  unfolding part_added
  part_added_ticks s h payload key e =
      by_answer_ticks (record s { unfinished = (added s.unfinished key h payload).1 }) h.packet key (added s.unfinished key h payload).0 e

  first_part_ticks : (s : ServerState) (h : Header) (payload : List ℕ) (key : Key) (o : Option KeptReply) → s.ticks ≡ n → (first_part s h payload key o).server.ticks ≡ n
  unfolding repeated
  first_part_ticks s h payload key None e = part_added_ticks s h payload key e
  first_part_ticks s h payload key (Some reply) e = e

  part_taken_ticks : (s : ServerState) (h : Header) (payload : List ℕ) (key : Key) (type : Packet) → s.ticks ≡ n → (part_taken s h payload key type).server.ticks ≡ n
  part_taken_ticks s h payload key packet.Req0 e = first_part_ticks s h payload key (newest key.rid s.kept) e
  part_taken_ticks s h payload key packet.ReqN e = part_added_ticks s h payload key e
  part_taken_ticks s h payload key packet.Reply e = part_added_ticks s h payload key e
  part_taken_ticks s h payload key packet.ReqRdy e = part_added_ticks s h payload key e
  part_taken_ticks s h payload key packet.Feedback e = part_added_ticks s h payload key e
  part_taken_ticks s h payload key packet.Reject e = part_added_ticks s h payload key e
  part_taken_ticks s h payload key packet.Ordering e = part_added_ticks s h payload key e
  part_taken_ticks s h payload key packet.Recover e = part_added_ticks s h payload key e

  received_part_ticks : (s : ServerState) (from : Addr) (h : Header) (payload : List ℕ) (o : Option Key) → s.ticks ≡ n → (received_part s from h payload o).server.ticks ≡ n
  received_part_ticks s from h payload None e = e
  received_part_ticks s from h payload (Some key) e =
      branch (λ t. t.server.ticks ≡ n) (is_taken s.router from h h.packet) (part_taken s h payload key h.packet) (unchanged s)
      (λ t. part_taken_ticks s h payload key h.packet e) (λ t. e)

  received_as_ticks : (s : ServerState) (d : Datagram) (r : Result (Header × ℕ) HeaderFault) → s.ticks ≡ n → (received_as s d r).server.ticks ≡ n
  received_as_ticks s d (Err fault) e = e
  received_as_ticks s d (Ok (h, size)) e = received_part_ticks s d.from h (drop size d.bytes) (key_at d.from d.to h) e

-- after these events as many ticks are counted as there were
counted_ticks : (s : ServerState) (event : Event) (earlier : List Event) → s.ticks ≡ ticks_in earlier → (turned_by s event).server.ticks ≡ ticks_in (event ∷ earlier)
unfolding received ticked
counted_ticks s (DatagramEvent d) earlier e =
    let more = sum_by-cons (λ (x : Event). cond (is_tick x) 1 0) (DatagramEvent d) earlier in
    received_as_ticks (ticks_in (DatagramEvent d ∷ earlier)) s d (header_at d.bytes) (omega (arith, e, more))
counted_ticks s Tick earlier e =
    let more = sum_by-cons (λ (x : Event). cond (is_tick x) 1 0) Tick earlier in omega (arith, e, more)
counted_ticks s Quiet earlier e =
    let more = sum_by-cons (λ (x : Event). cond (is_tick x) 1 0) Quiet earlier in omega (arith, e, more)

-- what holds of a server after these events
record IsRight (me : Addr) (router : Option Addr) (events : List Event) : Type 0 where
  pub sound : IsSound (state_after me router events)
  pub ticks : (state_after me router events).ticks ≡ ticks_in events
  pub ages : Ages (began me router events) (state_after me router events)

right_at_first : (me : Addr) (router : Option Addr) → IsRight me router []
unfolding state_after
right_at_first me router = record { sound = begin_sound me router; ticks = refl; ages = record { known = All-nil IsKnown; same = refl } }

-- the ages of what was unfinished before are as they were
began-before : (me : Addr) (router : Option Addr) (event : Event) (earlier : List Event) (key : Key) → is_begun key (state_after me router earlier).unfinished ≡ true
    → began me router earlier key ≡ began me router (event ∷ earlier) key
unfolding began
began-before me router event earlier key t = rw t refl

-- and what wasn't begins now
began-now : (me : Addr) (router : Option Addr) (event : Event) (earlier : List Event) (key : Key) → is_begun key (state_after me router earlier).unfinished ≡ false
    → began me router (event ∷ earlier) key ≡ ticks_in earlier
unfolding began
began-now me router event earlier key f = rw f refl

right_goes_on : (me : Addr) (router : Option Addr) (event : Event) (earlier : List Event) → IsRight me router earlier → IsRight me router (event ∷ earlier)
unfolding state_after turned
right_goes_on me router event earlier is =
    let s : ServerState = state_after me router earlier in
    let later : Key → ℕ = began me router (event ∷ earlier) in
    let before : Ages later s = record {
      known = is.ages.known;
      same = is.ages.same
          ∙ ageing-same (began me router earlier) later s.unfinished
          (each-begun (λ (k : Key). began me router earlier k ≡ later k) s.unfinished (began-before me router event earlier));
    } in
    let after = turned_by_ages later s event before is.sound.unfinished.distinct (λ key new. began-now me router event earlier key new ∙ sym is.ticks) in
    record {
      sound = turned_sound s event is.sound;
      ticks = counted_ticks s event earlier is.ticks;
      ages = record { known = after.known; same = after.same };
    }

right_always : (me : Addr) (router : Option Addr) (events : List Event) → IsRight me router events
right_always me router [] = right_at_first me router
right_always me router (event ∷ earlier) = right_goes_on me router event earlier (right_always me router earlier)

-- the keys of those that age
ageing-keys : (since : Key → ℕ) (messages : List Unfinished) → All IsKnown messages → timer_keys (ageing since messages) ≡ jbsq_keys messages
ageing-keys since [] known = refl
ageing-keys since (m ∷ rest) known =
    let tail = ageing-keys since rest (All-tail IsKnown m rest known) in
    elim (cases_Bool (is_jbsq m)) [
      | inl r ↦
          (let here : m.key ≡ key_for m.key.rid = All-head IsKnown m rest known r in
          rw r (ap (λ (ks : List Key). key_for m.key.rid ∷ ks) tail ∙ ap (λ (k : Key). k ∷ jbsq_keys rest) (sym here)))
      | inr r ↦ rw r tail
    ]

pub requests_age_right : RequestsAgeRight
requests_age_right me router events =
    let is = right_always me router events in
    record {
      ticks = is.ticks;
      keys = ap timer_keys is.ages.same ∙ ageing-keys (began me router events) (state_after me router events).unfinished is.ages.known;
      ages = is.ages.same;
    }
