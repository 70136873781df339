-- What was applied in a group has the bodies of the table.
use Rattle.std.proofs.Common.{◌≡◌, ℕ, zero, suc, ◌+◌, ◌==◌, Bool, true, false, List, [], ◌∷◌, ◌++◌, take, drop, get_or, Option, None, Some, refl, sym, subst}
use Rattle.std.specs.Prelude.{All, if◌then◌else◌, slice_get}
use Rattle.std.proofs.lemmas.List.Elements.{All-cons, All-drop, All-head, All-tail, All-take, All-weaker}
use Rattle.r2_base.specs.declared.datagram.Datagram.{Datagram}
use Rattle.r2_base.specs.declared.event.Event.{Event}
use Rattle.r2_base.specs.declared.event.Event.TheVariants as event
use Rattle.hc_log.specs.declared.stored.Stored.{Stored}
use Rattle.hc_member.specs.declared.role.Role.{Role}
use Rattle.hc_member.specs.declared.role.Role.TheVariants as member
use Rattle.hc_member.specs.declared.setup.Setup.{Setup}
use Rattle.hc_member.specs.Finish.{applied, batch_of, batched, due, finished, reported}
use Rattle.hc_member.specs.Member.{Member as MemberState}
use Rattle.hc_member.specs.Turn.{turned}
use Rattle.hc_rules.specs.Message.{Request}
use Rattle.hc_rules.specs.Protocol.{ProtocolState}
use Rattle.hc_rules.proofs.Logs.{in_behind}
use Rattle.hc_run.specs.Group.{Group, Receiver, Member, Aggregator, Outside, receiver_at, setup_of}
use Rattle.hc_run.specs.State.{GroupState, Passed, journal_at, member_at}
use Rattle.hc_run.specs.Events.{GroupEvent, ClientSend, Deliver, Tick, Quiet, Crash, Restart, CrashInTurn, Forget, End}
use Rattle.hc_run.specs.Held.{IsWhole}
use Rattle.hc_run.specs.Shows.{Shows}
use Rattle.hc_run.specs.Steps.{asked, comes_to, crashes, crashes_in_turn, delivered, ends, event_of, happens, lasts, makes_turn, packet_at, passes, step, stops, where_up, with_facts, with_finished, with_heard, with_sent, with_stored}
use Rattle.hc_run.proofs.Finishing.{batch-is}
use Rattle.hc_run.proofs.Places.{up-member}
use Rattle.hc_run.proofs.TableBodies.{whole-stored}
use Rattle.hc_run.proofs.Stops.{shown-up}

-- each entry that was applied is whole
abbrev pub AreWhole : GroupState → Type 0
AreWhole s = All (λ x. IsWhole s.table x.stored) s.passed

-- Logs --

-- the log of a member that is up
pub log-whole : (g : Group) (w : ProtocolState) (s : GroupState) (v : ℕ) (m : MemberState) → Shows g w s → member_at s v ≡ Some m → All (IsWhole s.table) m.log
log-whole g w s v m shows up =
    let both = shown-up g w s v m shows (up-member g s v m shows.each up) up in
    let shown = both.0 in
    let holds = shown.holds in
    let sound = shown.sound in
    let valid = sound.durable in
    subst (λ (t : List Request). All (IsWhole t) m.log) shows.table
    (λ k d inside. whole-stored w.table (get_or m.log k d) (holds.bodies k d inside) (valid.log k d inside).stored)

-- What is applied --

passes-whole : (P : Stored → Type 0) (v index : ℕ) (list : List Stored) (before : List Passed) → All P list → All (λ (x : Passed). P x.stored) before
    → All (λ (x : Passed). P x.stored) (passes v index list before)
passes-whole P v index [] before new old = old
passes-whole P v index (x ∷ later) before new old =
    let one : Passed = record { member = v; index = index; stored = x } in
    passes-whole P v (index + 1) later (one ∷ before) (All-tail P x later new) (All-cons (λ (y : Passed). P y.stored) one before (All-head P x later new) old)

-- what is due is of the log
batch-whole : (P : Stored → Type 0) (v : ℕ) (m : MemberState) (before : List Passed) → All P m.log → All (λ (x : Passed). P x.stored) before
    → All (λ (x : Passed). P x.stored) (passes v (m.applied + 1) (batch_of (due m)) before)
batch-whole P v m before new old =
    let batch = take (due m).pending (drop m.applied m.log) in
    subst (λ (l : List Stored). All (λ (x : Passed). P x.stored) (passes v (m.applied + 1) l before)) (sym (batch-is m))
    (passes-whole P v (m.applied + 1) batch before (All-take P (due m).pending (drop m.applied m.log) (All-drop P m.applied m.log new)) old)

-- applying leaves the log
finished-log : (s : Setup) (m : MemberState) → (finished s m).member.log ≡ m.log
unfolding finished applied due batched
finished-log s m = by m.role (m.pending == 0)
  where
    by : (r : Role) (b : Bool) → (reported s (applied s (if b then batched m else m)) r).log ≡ m.log
    by member.Leader true = refl
    by member.Leader false = refl
    by member.Follower true = refl
    by member.Follower false = refl
    by member.Candidate true = refl
    by member.Candidate false = refl

-- Events --

module _ (g : Group) (v : ℕ) where
  finish-whole : (m : MemberState) (s : GroupState) → All (IsWhole s.table) m.log → AreWhole s → AreWhole (with_finished g v m s)
  unfolding with_finished
  finish-whole m s log whole = batch-whole (IsWhole s.table) v m s.passed log whole

  turn-whole : (e : Event) (m : MemberState) (s : GroupState) → All (IsWhole s.table) m.log → AreWhole s → AreWhole (makes_turn g v e m s)
  unfolding makes_turn with_sent with_heard with_finished
  turn-whole e m s log whole = batch-whole (IsWhole s.table) v m s.passed log whole

  crash-by : (b : Bool) (e : Event) (m : MemberState) (s : GroupState) → All (IsWhole s.table) m.log → AreWhole s
      → AreWhole (if b then crashes (stops v (with_stored (journal_at s v) (turned (setup_of g v) m e).stored) (with_facts g v m e s))
      else crashes (stops v (journal_at s v) (with_finished g v m s)))
  unfolding with_heard with_finished
  crash-by true e m s log whole = batch-whole (IsWhole s.table) v m s.passed log whole
  crash-by false e m s log whole = batch-whole (IsWhole s.table) v m s.passed log whole

  crash-whole : (e : Event) (kept : Bool) (m : MemberState) (s : GroupState) → All (IsWhole s.table) m.log → AreWhole s → AreWhole (crashes_in_turn g v e kept m s)
  unfolding crashes_in_turn
  crash-whole e kept m s log whole = crash-by (lasts kept (turned (setup_of g v) m e).stored) e m s log whole

  ends-whole : (times : ℕ) (m : MemberState) (s : GroupState) → All (IsWhole s.table) m.log → AreWhole s → AreWhole (ends g v times m s)
  unfolding ends with_sent with_finished
  ends-whole zero m s log whole = whole
  ends-whole (suc times) m s log whole =
      let f = finished (setup_of g v) m in
      ends-whole times f.member (with_sent g v f.sends (with_finished g v m s)) (subst (λ (l : List Stored). All (IsWhole s.table) l) (sym (finished-log (setup_of g v) m)) log)
      (batch-whole (IsWhole s.table) v m s.passed log whole)

-- what a member does that is up
up-whole : (s : GroupState) (found : Option MemberState) (does : MemberState → GroupState → GroupState) → AreWhole s
    → ((m : MemberState) → found ≡ Some m → AreWhole (does m s)) → AreWhole (where_up found does s)
up-whole s (Some m) does whole each = each m refl
up-whole s None does whole each = whole

-- with one more request in the table
stays-whole : (table : List Request) (r : Request) (x : Stored) → IsWhole table x → IsWhole (table ++ r ∷ []) x
stays-whole table r x whole = record { listed = λ asks. in_behind _ table (r ∷ []) (whole.listed asks); blank = whole.blank }

module _ (g : Group) (w : ProtocolState) (s : GroupState) (shows : Shows g w s) (whole : AreWhole s) where
  comes-whole : (to : Receiver) (d : Datagram) → AreWhole (comes_to g to d s)
  comes-whole (Member v) d =
      up-whole s (member_at s v) (makes_turn g v (event.Datagram d)) whole (λ m up. turn-whole g v (event.Datagram d) m s (log-whole g w s v m shows up) whole)
  comes-whole Aggregator d = whole
  comes-whole Outside d = whole

  delivered-whole : (packet : Option Datagram) → AreWhole (delivered g packet s)
  delivered-whole (Some d) = comes-whole (receiver_at g d.to) d
  delivered-whole None = whole

  happens-whole : (e : GroupEvent) → AreWhole (happens g e s)
  unfolding asked
  happens-whole (ClientSend q) =
      All-weaker (λ (x : Passed). IsWhole s.table x.stored) (λ (x : Passed). IsWhole (s.table ++ q ∷ []) x.stored) (λ x. stays-whole s.table q x.stored) s.passed whole
  happens-whole (Deliver number) = delivered-whole (slice_get s.datagrams number)
  happens-whole (Tick v) =
      up-whole s (member_at s v) (makes_turn g v event.Tick) whole (λ m up. turn-whole g v event.Tick m s (log-whole g w s v m shows up) whole)
  happens-whole (Quiet v) =
      up-whole s (member_at s v) (makes_turn g v event.Quiet) whole (λ m up. turn-whole g v event.Quiet m s (log-whole g w s v m shows up) whole)
  happens-whole (Crash v) = up-whole s (member_at s v) (λ m s. crashes (stops v (journal_at s v) s)) whole (λ m up. whole)
  happens-whole (Restart v) = whole
  happens-whole (CrashInTurn v packet kept) =
      up-whole s (member_at s v) (crashes_in_turn g v (event_of (packet_at s packet)) kept) whole
      (λ m up. crash-whole g v (event_of (packet_at s packet)) kept m s (log-whole g w s v m shows up) whole)
  happens-whole Forget = whole
  happens-whole (End v times) = up-whole s (member_at s v) (ends g v times) whole (λ m up. ends-whole g v times m s (log-whole g w s v m shows up) whole)

  -- an event leaves what was applied whole
  pub step-whole : (e : GroupEvent) → AreWhole (step g s e)
  unfolding step
  step-whole e = happens-whole e
