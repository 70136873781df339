-- The rows on Orders: a member refuses one or takes it, and stays sound.
use Rattle.std.proofs.Common.{◌≡◌, ℕ, ◌-◌, ◌≤◌, ◌==◌, max, min, Bool, true, false, List, length, get_or, take, refl, sym, ap, subst, ◌∙◌, arith}
use Rattle.std.specs.Prelude.{not, nat_lt, if◌then◌else◌, All}
use Rattle.std.proofs.lemmas.Bool.{and_parts, eqb-true, ltb-false, ltb-true}
use Rattle.std.proofs.lemmas.List.{length-take}
use Rattle.std.proofs.lemmas.List.Elements.{All-cons, All-map, All-weaker}
use Rattle.r2_base.specs.declared.addr.Addr.{Addr}
use Rattle.r2_base.specs.declared.entry.Entry.{Entry}
use Rattle.hc_log.specs.declared.stored.Stored.{Stored}
use Rattle.hc_log.specs.Log.{term_at}
use Rattle.hc_log.proofs.Formed.{IsFormed-from_steps}
use Rattle.hc_message.specs.declared.msg.Msg.TheVariants.{Nack, RecoverAsk}
use Rattle.hc_message.specs.Entry.{IsTerm}
use Rattle.hc_message.specs.Message.{AreOrdered}
use Rattle.hc_order.specs.Taking.{Taken, taken}
use Rattle.hc_member.specs.declared.setup.Setup.{Setup}
use Rattle.hc_member.specs.declared.role.Role.TheVariants.{Follower}
use Rattle.hc_member.specs.Setup.{IsSetup, address_of}
use Rattle.hc_member.specs.Member.{Member, leads}
use Rattle.hc_member.specs.Orders.{HeardOrder, acknowledgement, bodies_asked, follows, hear_order, joins, refusal, refuse, take_or_refuse, take_order, take_with, with_taken}
use Rattle.hc_member.specs.Outcome.{nothing, stays}
use Rattle.hc_member.specs.Sending.{Tell, Recover, IsSent}
use Rattle.hc_member.specs.Sound.{IsInRole, IsSound}
use Rattle.hc_member.specs.Votes.{rise_to}
use Rattle.hc_member.proofs.Goes.{Goes, goes-by, goes-nothing, goes-sends, keeps_vote}
use Rattle.hc_member.proofs.Rises.{rises}
use Rattle.hc_member.proofs.Sound.{sound-log, sound-part}
use Rattle.hc_member.proofs.Sends.{own-fits, sent-ack, sent-ask, sent-nack, sent-one}
use Rattle.hc_member.proofs.Taken.{IsTakenWell, order-taken}

-- the tests of the previous entry
joins-parts : (log : List Stored) (prev_index prev_term : ℕ) → joins log prev_index prev_term ≡ true → (prev_index ≤ length log) × (term_at log prev_index ≡ prev_term)
joins-parts log prev_index prev_term e =
    let both = and_parts (not (nat_lt (length log) prev_index)) (term_at log prev_index == prev_term) e in
    (ltb-false (length log) prev_index (not-true (nat_lt (length log) prev_index) both.0), eqb-true (term_at log prev_index) prev_term both.1)
  where
    not-true : (b : Bool) → not b ≡ true → b ≡ false
    not-true true e = cc
    not-true false e = refl

module _ (s : Setup) (is : IsSetup s) where
  -- a member that follows a leader of its term
  pub record Follows (term : ℕ) (m n : Member) : Type 0 where
    pub sound : IsSound s n
    pub log : n.log ≡ m.log
    pub role : n.role ≡ Follower
    pub low : m.term ≤ n.term
    pub high : term ≤ n.term
    pub vote : m.term ≡ n.term → n.vote ≡ m.vote
    pub commit : n.commit ≡ m.commit
    pub applied : n.applied ≡ m.applied

  sound-follows : (n : Member) → IsSound s n → IsSound s (record n { role = Follower; silent = 0 })
  sound-follows n sound =
      sound-part s n n.term n.vote Follower n.votes n.matched 0 n.commit n.lead sound sound.durable (omega arith) sound.committed sound.matched tt

  pub follows-parts : (m : Member) (term : ℕ) → IsTerm term → IsSound s m → Follows term m (follows term m)
  unfolding follows
  follows-parts m term t sound =
      let r = rises s term m t sound in
      record { sound = sound-follows (rise_to term m) r.sound; log = r.log; role = refl; low = r.low; high = r.high; vote = r.vote; commit = r.commit; applied = r.applied }

  -- a refusal is valid
  sent-refusal : (n : Member) (leader hint : ℕ) → 1 ≤ n.term → hint ≤ length n.log → IsSound s n → All IsSent (refusal s n leader hint)
  sent-refusal n leader hint set low sound =
      let valid = sound.durable in
      let limits = (IsFormed-from_steps n.log valid.log).limits in
      sent-one (Tell (address_of s leader) (Nack n.term s.me hint))
      (sent-nack (address_of s leader) n.term s.me hint (record { least = set; most = valid.term }) (own-fits s is) (let most = limits.entries in omega (arith, low, most)))

  goes-refuse : (term : ℕ) (m n : Member) (o : HeardOrder) → 1 ≤ term → Follows term m n → Goes s m (refuse s n o)
  unfolding refuse
  goes-refuse term m n o set f =
      goes-by s m n n (refusal s n o.leader (min (length n.log) (o.prev_index - 1))) f.log f.sound
      (record { log = f.log; term = f.low; vote = λ same. keeps_vote m.vote n.vote (f.vote same); commit = (let commit = f.commit in omega (arith, commit)); applied = f.applied })
      (sent-refusal n o.leader (min (length n.log) (o.prev_index - 1)) (let high = f.high in omega (arith, set, high)) (omega arith) f.sound)

  -- a member that took an Order
  sound-taken : (n : Member) (commit : ℕ) (t : Taken) → n.role ≡ Follower → IsSound s n → IsTakenWell n.log n.term (max n.commit n.matched) t → IsSound s (with_taken n commit t)
  sound-taken n commit t role sound taken_now =
      let valid = sound.durable in
      let batch = sound.batch in
      let stands = taken_now.stands in
      let within = taken_now.within in
      let front = taken_now.front in
      let size : t.keep ≤ length t.log = (let sizes = ap length front in omega (arith, sizes, within, length-take t.keep n.log, length-take t.keep t.log)) in
      let reached = taken_now.reached in
      let matched = max n.matched t.upto in
      sound-log s n t.keep t.log t.pool n.role matched (max n.commit (min commit matched)) n.lead sound (omega (arith, batch, stands)) front
      (record { term = valid.term; vote = valid.vote; unset = valid.unset; log = taken_now.is_log; terms = taken_now.terms }) taken_now.pool taken_now.apart (omega arith)
      (omega (arith, stands, size, reached)) (omega (arith, stands, size, reached))
      (subst (IsInRole s n.term (length t.log) n.votes n.lead) (sym role) tt)

  goes-take_with : (term : ℕ) (m n : Member) (from : Addr) (o : HeardOrder) (t : Taken) → 1 ≤ term → Follows term m n → IsTakenWell n.log n.term (max n.commit n.matched) t
      → Goes s m (take_with s n from o t)
  goes-take_with term m n from o t set f taken_now =
      let after = with_taken n o.commit t in
      let sound = sound-taken n o.commit t f.role f.sound taken_now in
      let valid = sound.durable in
      let limits = (IsFormed-from_steps t.log valid.log).limits in
      let most = limits.entries in
      let batch = sound.batch in
      let committed = sound.committed in
      let matched = sound.matched in
      let high = f.high in
      let within = taken_now.within in
      let log = f.log in
      let sizes = ap length log in
      let ack = sent-ack from after.term s.me after.matched after.applied (record { least = omega (arith, set, high); most = valid.term }) (own-fits s is)
      (omega (arith, matched, most)) (omega (arith, batch, committed, most)) in
      record {
        sound = sound;
        comes =
            record {
              term = f.low;
              vote = λ same. keeps_vote m.vote n.vote (f.vote same);
              within = omega (arith, within, sizes);
              front = subst (λ (l : List Stored). take t.keep l ≡ take t.keep t.log) log taken_now.front;
              count = taken_now.count;
              cut = λ less same. taken_now.cut (omega (arith, less, sizes)) (same ∙ sym log);
            };
        cut = λ less. f.role;
        commit = (let commit = f.commit in omega (arith, commit));
        stands = (let commit = f.commit in let stands = taken_now.stands in omega (arith, commit, stands));
        applied = f.applied;
        sends = All-cons IsSent (acknowledgement s after from) (bodies_asked s o.leader t.missing) ack
            (All-map IsSent (λ rid. Recover (address_of s o.leader) rid (RecoverAsk s.me)) t.missing (λ k d inside. sent-ask (address_of s o.leader) (get_or t.missing k d) s.me (own-fits s is)));
      }

  goes-take : (term : ℕ) (m n : Member) (from : Addr) (o : HeardOrder) → IsTerm term → Follows term m n → o.prev_index ≤ length n.log → term_at n.log o.prev_index ≡ o.prev_term
      → AreOrdered o.prev_index o.prev_term term o.entries → Goes s m (take_order s n from o)
  unfolding take_order
  goes-take term m n from o t f inside same ordered =
      let sound = f.sound in
      let valid = sound.durable in
      let high = f.high in
      let higher = ordered.high in
      let wider : AreOrdered o.prev_index o.prev_term n.term o.entries =
      record {
        count = ordered.count;
        room = ordered.room;
        each = ordered.each;
        low = ordered.low;
        high = All-weaker (λ (e : Entry). e.term ≤ term) (λ (e : Entry). e.term ≤ n.term) (λ e le. omega (arith, le, high)) o.entries higher;
        never_fall = ordered.never_fall;
      } in
      goes-take_with term m n from o (taken n.log n.pool o.prev_index o.entries (max n.commit n.matched)) t.least f
      (order-taken n.log n.pool o.prev_index o.prev_term n.term (max n.commit n.matched) o.entries valid.log valid.terms sound.pool sound.apart inside same wider
      (let committed = sound.committed in let matched = sound.matched in omega (arith, committed, matched)))

  take-by : (b : Bool) (term : ℕ) (m n : Member) (from : Addr) (o : HeardOrder) → joins n.log o.prev_index o.prev_term ≡ b → IsTerm term → Follows term m n
      → AreOrdered o.prev_index o.prev_term term o.entries → Goes s m (if b then take_order s n from o else refuse s n o)
  take-by true term m n from o e t f ordered =
      let parts = joins-parts n.log o.prev_index o.prev_term e in
      goes-take term m n from o t f parts.0 parts.1 ordered
  take-by false term m n from o e t f ordered = goes-refuse term m n o t.least f

  leader-by : (b : Bool) (term : ℕ) (m : Member) (from : Addr) (o : HeardOrder) → IsTerm term → IsSound s m → AreOrdered o.prev_index o.prev_term term o.entries
      → Goes s m (if b then nothing m else take_or_refuse s (follows term m) from o)
  leader-by true term m from o t sound ordered = goes-nothing s m sound
  leader-by false term m from o t sound ordered =
      take-by (joins (follows term m).log o.prev_index o.prev_term) term m (follows term m) from o refl t (follows-parts m term t sound) ordered

  order-by : (b : Bool) (term : ℕ) (m : Member) (from : Addr) (o : HeardOrder) → nat_lt term m.term ≡ b → IsTerm term → IsSound s m
      → AreOrdered o.prev_index o.prev_term term o.entries
      → Goes s m (if b then stays m m (refusal s m o.leader 0) else (if leads term m then nothing m else take_or_refuse s (follows term m) from o))
  order-by true term m from o e t sound ordered =
      let lower = ltb-true term m.term e in
      goes-sends s m (refusal s m o.leader 0) sound
      (sent-refusal m o.leader 0 (let least = t.least in omega (arith, least, lower)) (omega arith) sound)
  order-by false term m from o e t sound ordered = leader-by (leads term m) term m from o t sound ordered

  pub goes-hear_order : (term : ℕ) (m : Member) (from : Addr) (o : HeardOrder) → IsTerm term → IsSound s m → AreOrdered o.prev_index o.prev_term term o.entries
      → Goes s m (hear_order s m from term o)
  unfolding hear_order
  goes-hear_order term m from o t sound ordered = order-by (nat_lt term m.term) term m from o refl t sound ordered
