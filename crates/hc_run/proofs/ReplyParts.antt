-- What reads as a part of a reply is a part of one that was made.
use Rattle.std.proofs.Common.{◌≡◌, ℕ, zero, suc, ◌<◌, ◌⊎◌, Bool, true, false, List, [], ◌∷◌, ◌++◌, length, map, get_or, Option, None, Some, refl, sym, subst, arith, inl, inr}
use Rattle.std.specs.Prelude.{if◌then◌else◌, slice_get}
use Rattle.std.specs.List.{flat_map}
use Rattle.std.proofs.lemmas.List.Concat.{flat_map-cons}
use Rattle.r2_base.specs.declared.addr.Addr.{Addr}
use Rattle.r2_base.specs.declared.datagram.Datagram.{Datagram}
use Rattle.r2_base.specs.declared.event.Event.{Event}
use Rattle.r2_base.specs.declared.event.Event.TheVariants as event
use Rattle.r2_frag.specs.Parts.{parts_of}
use Rattle.r2_frag.specs.Replies.{reply_parts, reply_spec}
use Rattle.hc_member.specs.Finish.{finished}
use Rattle.hc_member.specs.Member.{Member as MemberState}
use Rattle.hc_member.specs.Sending.{Sending, Tell, Recover, Reply as ReplyTo, datagrams_of, datagrams_of_all}
use Rattle.hc_member.specs.Setup.{own_address}
use Rattle.hc_member.specs.Turn.{turned}
use Rattle.hc_aggregate.specs.Turn.{Telling, datagram_of}
use Rattle.hc_rules.specs.Log.{In}
use Rattle.hc_rules.specs.Message.{Reply, Request}
use Rattle.hc_run.specs.Group.{Group, IsGroup, Receiver, Member, Aggregator, Outside, receiver_at, setup_of}
use Rattle.hc_run.specs.State.{GroupState, beginning, journal_at, member_at}
use Rattle.hc_run.specs.Events.{GroupEvent, ClientSend, Deliver, Tick, Quiet, Crash, Restart, CrashInTurn, Forget, End}
use Rattle.hc_run.specs.ReplyParts.{AreReplyParts, IsReplyPart, ReadsAsReply}
use Rattle.hc_run.specs.Runs.{ArePossible, after_events, run}
use Rattle.hc_run.specs.Steps.{asked, comes_to, crashes, crashes_in_turn, delivered, ends, event_of, happens, lasts, makes_turn, packet_at, replies, reply_from, request_parts, request_spec, step, stops, where_up, with_facts, with_finished, with_heard, with_sent, with_stored}
use Rattle.hc_run.proofs.Journals.{AreGood, beginning-good, step-good, up-inside}
use Rattle.hc_run.proofs.SentDatagrams.{parts-between}
use Rattle.hc_run.proofs.Silent.{message-silent, recovery-silent, request-silent}

-- Lists --

pub in-append : {A : Type 0} (x : A) (l more : List A) → In x (l ++ more) → In x l ⊎ In x more
in-append x [] more there = inr there
in-append x (y ∷ l) more (inl same) = inl (inl same)
in-append x (y ∷ l) more (inr later) =
    elim (in-append x l more later) [
      | inl first ↦ inl (inr first)
      | inr last ↦ inr last
    ]

in-get : {A : Type 0} (l : List A) (k : ℕ) (d : A) → k < length l → In (get_or l k d) l
in-get [] k d inside = absurd (omega (arith, inside))
in-get (x ∷ l) zero d inside = inl refl
in-get (x ∷ l) (suc k) d inside = inr (in-get l k d (omega (arith, inside)))

-- Sends --

-- a reply that was made before is among those made
replies-stay : (place : ℕ) (sends : List Sending) (before : List Reply) (r : Reply) → In r before → In r (replies place sends before)
replies-stay place [] before r there = there
replies-stay place (Tell to message ∷ sends) before r there = replies-stay place sends before r there
replies-stay place (Recover to rid message ∷ sends) before r there = replies-stay place sends before r there
replies-stay place (ReplyTo reply ∷ sends) before r there = replies-stay place sends (reply_from place reply ∷ before) r (inr there)

module _ (g : Group) (v : ℕ) (inside : v < length g.members) where
  -- what a member sends at once is silent, or a part of the reply
  one-made : (place : ℕ) (x : Sending) (sends : List Sending) (before : List Reply) (d : Datagram) → In d (datagrams_of (setup_of g v) x) → ReadsAsReply d
      → IsReplyPart g (replies place (x ∷ sends) before) d
  unfolding datagrams_of reply_parts
  one-made place (Tell to message) sends before d (inl same) reads =
      absurd (message-silent (own_address (setup_of g v)) to message (subst ReadsAsReply same reads))
  one-made place (Tell to message) sends before d (inr none) reads = absurd none
  one-made place (Recover to rid message) sends before d there reads =
      absurd (recovery-silent (own_address (setup_of g v)) to rid message d there reads)
  one-made place (ReplyTo reply) sends before d there reads =
      let own = own_address (setup_of g v) in
      let from = (parts-between (reply_spec own reply.rid reply.policy) reply.payload d there).0 in
      record {
        reply = reply_from place reply;
        there = replies-stay place sends (reply_from place reply ∷ before) (reply_from place reply) (inl refl);
        part =
            record {
              from = subst (λ (a : Addr). In a g.members) (sym from) (in-get g.members v (record { ip = 0; port = 0 }) inside);
              policy = reply.policy;
              part = subst (λ (a : Addr). In d (parts_of (reply_spec a reply.rid reply.policy) reply.payload)) (sym from) there;
            };
      }

  first-or-later : (place : ℕ) (x : Sending) (sends : List Sending) (before : List Reply) (d : Datagram) → In d (datagrams_of_all (setup_of g v) (x ∷ sends)) → ReadsAsReply d
      → (In d (datagrams_of_all (setup_of g v) sends) → ReadsAsReply d → IsReplyPart g (replies place (x ∷ sends) before) d)
      → IsReplyPart g (replies place (x ∷ sends) before) d
  first-or-later place x sends before d there reads later =
      elim (in-append d (datagrams_of (setup_of g v) x) (datagrams_of_all (setup_of g v) sends)
      (subst (In d) (flat_map-cons (datagrams_of (setup_of g v)) x sends) there)) [
        | inl first ↦ one-made place x sends before d first reads
        | inr rest ↦ later rest reads
      ]

  -- and so is all that it sends
  all-made : (place : ℕ) (sends : List Sending) (before : List Reply) → AreReplyParts g (replies place sends before) (datagrams_of_all (setup_of g v) sends)
  all-made place [] before d there reads = absurd there
  all-made place (Tell to message ∷ sends) before d there reads =
      first-or-later place (Tell to message) sends before d there reads (all-made place sends before d)
  all-made place (Recover to rid message ∷ sends) before d there reads =
      first-or-later place (Recover to rid message) sends before d there reads (all-made place sends before d)
  all-made place (ReplyTo reply ∷ sends) before d there reads =
      first-or-later place (ReplyTo reply) sends before d there reads (all-made place sends (reply_from place reply ∷ before) d)

-- Steps --

-- of each datagram that was sent
abbrev HasReplyParts : Group → GroupState → Type 0
HasReplyParts g s = AreReplyParts g s.replied s.datagrams

-- among more replies too
part-stays : (g : Group) (old new : List Reply) (d : Datagram) → ((r : Reply) → In r old → In r new) → IsReplyPart g old d → IsReplyPart g new d
part-stays g old new d more is = record { reply = is.reply; there = more is.reply is.there; part = is.part }

-- datagrams that don't read so change nothing
silent-more : (g : Group) (replied : List Reply) (datagrams more : List Datagram) → AreReplyParts g replied datagrams → ((d : Datagram) → In d more → ReadsAsReply d → ⊥)
    → AreReplyParts g replied (datagrams ++ more)
silent-more g replied datagrams more are silent d there reads =
    elim (in-append d datagrams more there) [
      | inl first ↦ are d first reads
      | inr last ↦ absurd (silent d last reads)
    ]

module _ (g : Group) (v : ℕ) (inside : v < length g.members) where
  sent-parts : (sends : List Sending) (s : GroupState) → HasReplyParts g s → HasReplyParts g (with_sent g v sends s)
  unfolding with_sent
  sent-parts sends s are d there reads =
      elim (in-append d s.datagrams (datagrams_of_all (setup_of g v) sends) there) [
        | inl first ↦
            part-stays g s.replied (replies (length s.table) sends s.replied) d (replies-stay (length s.table) sends s.replied) (are d first reads)
        | inr last ↦ all-made g v inside (length s.table) sends s.replied d last reads
      ]

  turn-parts : (e : Event) (m : MemberState) (s : GroupState) → HasReplyParts g s → HasReplyParts g (makes_turn g v e m s)
  unfolding makes_turn with_heard with_finished
  turn-parts e m s are = sent-parts (turned (setup_of g v) m e).sends (with_facts g v m e _) are

  crash-by : (b : Bool) (e : Event) (m : MemberState) (s : GroupState) → HasReplyParts g s
      → HasReplyParts g (if b then crashes (stops v (with_stored (journal_at s v) (turned (setup_of g v) m e).stored) (with_facts g v m e s))
      else crashes (stops v (journal_at s v) (with_finished g v m s)))
  unfolding with_heard with_finished
  crash-by true e m s are = are
  crash-by false e m s are = are

  crash-parts : (e : Event) (kept : Bool) (m : MemberState) (s : GroupState) → HasReplyParts g s → HasReplyParts g (crashes_in_turn g v e kept m s)
  unfolding crashes_in_turn
  crash-parts e kept m s are = crash-by (lasts kept (turned (setup_of g v) m e).stored) e m s are

  ends-parts : (times : ℕ) (m : MemberState) (s : GroupState) → HasReplyParts g s → HasReplyParts g (ends g v times m s)
  unfolding ends with_finished
  ends-parts zero m s are = are
  ends-parts (suc times) m s are =
      let f = finished (setup_of g v) m in
      ends-parts times f.member (with_sent g v f.sends (with_finished g v m s)) (sent-parts f.sends (with_finished g v m s) are)

-- what a member does that is up
up-parts : (g : Group) (s : GroupState) (found : Option MemberState) (does : MemberState → GroupState → GroupState) → HasReplyParts g s
    → ((m : MemberState) → found ≡ Some m → HasReplyParts g (does m s)) → HasReplyParts g (where_up found does s)
up-parts g s (Some m) does are each = each m refl
up-parts g s None does are each = are

-- what the aggregator sends are messages
aggregator-silent : (me : Addr) (tells : List Telling) (d : Datagram) → In d (map (datagram_of me) tells) → ReadsAsReply d → ⊥
aggregator-silent me [] d there reads = there
aggregator-silent me (x ∷ tells) d (inl same) reads = message-silent me x.to x.message (subst ReadsAsReply same reads)
aggregator-silent me (x ∷ tells) d (inr later) reads = aggregator-silent me tells d later reads

-- and what a client sends are parts of its request
requests-silent : (q : Request) (to : List Addr) (d : Datagram) → In d (flat_map (λ (a : Addr). parts_of (request_spec q a) q.body) to) → ReadsAsReply d → ⊥
requests-silent q [] d there reads = there
requests-silent q (a ∷ to) d there reads =
    elim (in-append d (parts_of (request_spec q a) q.body) (flat_map (λ (b : Addr). parts_of (request_spec q b) q.body) to)
    (subst (In d) (flat_map-cons (λ (b : Addr). parts_of (request_spec q b) q.body) a to) there)) [
      | inl first ↦ request-silent q a d first reads
      | inr later ↦ requests-silent q to d later reads
    ]

module _ (g : Group) (is : IsGroup g) (s : GroupState) (good : AreGood g s.replicas) (are : HasReplyParts g s) where
  comes-parts : (to : Receiver) (d : Datagram) → HasReplyParts g (comes_to g to d s)
  comes-parts (Member v) d =
      up-parts g s (member_at s v) (makes_turn g v (event.Datagram d)) are (λ m up. turn-parts g v (up-inside g is s.replicas v m good up) (event.Datagram d) m s are)
  comes-parts Aggregator d = silent-more g s.replied s.datagrams _ are (λ x there. aggregator-silent d.to _ x there)
  comes-parts Outside d = are

  delivered-parts : (packet : Option Datagram) → HasReplyParts g (delivered g packet s)
  delivered-parts (Some d) = comes-parts (receiver_at g d.to) d
  delivered-parts None = are

  happens-parts : (e : GroupEvent) → HasReplyParts g (happens g e s)
  unfolding asked request_parts
  happens-parts (ClientSend q) = silent-more g s.replied s.datagrams (request_parts g q) are (requests-silent q g.members)
  happens-parts (Deliver number) = delivered-parts (slice_get s.datagrams number)
  happens-parts (Tick v) = up-parts g s (member_at s v) (makes_turn g v event.Tick) are (λ m up. turn-parts g v (up-inside g is s.replicas v m good up) event.Tick m s are)
  happens-parts (Quiet v) = up-parts g s (member_at s v) (makes_turn g v event.Quiet) are (λ m up. turn-parts g v (up-inside g is s.replicas v m good up) event.Quiet m s are)
  happens-parts (Crash v) = up-parts g s (member_at s v) (λ m s. crashes (stops v (journal_at s v) s)) are (λ m up. are)
  happens-parts (Restart v) = are
  happens-parts (CrashInTurn v packet kept) =
      up-parts g s (member_at s v) (crashes_in_turn g v (event_of (packet_at s packet)) kept) are
      (λ m up. crash-parts g v (up-inside g is s.replicas v m good up) (event_of (packet_at s packet)) kept m s are)
  happens-parts Forget = are
  happens-parts (End v times) = up-parts g s (member_at s v) (ends g v times) are (λ m up. ends-parts g v (up-inside g is s.replicas v m good up) times m s are)

  step-parts : (e : GroupEvent) → HasReplyParts g (step g s e)
  unfolding step
  step-parts e = happens-parts e

-- Runs --

events-parts : (g : Group) (is : IsGroup g) (s : GroupState) (events : List GroupEvent) → AreGood g s.replicas → ArePossible g s events → HasReplyParts g s
    → HasReplyParts g (after_events g s events)
events-parts g is s [] good may are = are
events-parts g is s (e ∷ more) good may are =
    events-parts g is (step g s e) more (step-good g is s e good may.0) may.1 (step-parts g is s good are e)

pub reply-parts : (g : Group) (is : IsGroup g) (events : List GroupEvent) → ArePossible g (beginning g) events → HasReplyParts g (run g events)
reply-parts g is events may = events-parts g is (beginning g) events (beginning-good g is) may (λ d there reads. absurd there)
