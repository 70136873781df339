-- A member's turn in a group: at a tick, where nothing comes, and at a datagram that was sent to it.
use Rattle.std.proofs.Common.{◌≡◌, ℕ, ◌+◌, Bool, true, false, List, [], ◌++◌, map, get_or, Option, None, Some, refl, sym, ap, subst, ◌∙◌}
use Rattle.std.specs.Prelude.{All, position, slice_get}
use Rattle.std.proofs.lemmas.List.{map-append}
use Rattle.std.proofs.lemmas.List.Elements.{All-get_or}
use Rattle.std.proofs.lemmas.List.Quantifiers.{position-Some}
use Rattle.std.proofs.lemmas.Option.{get_or_from_slice_get, slice_get_within}
use Rattle.r2_base.specs.declared.addr.Addr.{Addr}
use Rattle.r2_base.specs.declared.datagram.Datagram.{Datagram}
use Rattle.r2_base.specs.declared.event.Event.{Event}
use Rattle.r2_base.specs.declared.event.Event.TheVariants as event
use Rattle.r2_base.specs.Names.{same_addr}
use Rattle.r2_base.proofs.SameNames.{same_addr-true}
use Rattle.hc_log.specs.Durable.{State}
use Rattle.hc_member.specs.Finish.{batch_of, due}
use Rattle.hc_member.specs.Member.{Member as MemberState, durable_of}
use Rattle.hc_member.specs.Setup.{own_address}
use Rattle.hc_member.specs.Turn.{turned}
use Rattle.hc_rules.specs.Message.{Passed as WorldPassed}
use Rattle.hc_rules.specs.Protocol.{ProtocolState}
use Rattle.hc_rules.specs.Runs.{after_rules}
use Rattle.hc_run.specs.Group.{Group, IsGroup, Receiver, Member, receiver_at, receiver_by, other_receiver, setup_of}
use Rattle.hc_run.specs.State.{GroupState, Passed, is_up, journal_at, member_at}
use Rattle.hc_run.specs.Steps.{comes_to, delivered, makes_turn, passes, with_finished, with_heard, with_sent, with_stored}
use Rattle.hc_run.specs.Tied.{passed_in}
use Rattle.hc_run.specs.Backed.{IsBackedDatagram}
use Rattle.hc_run.specs.Halves.{passed_by}
use Rattle.hc_run.specs.Held.{IsStoredOf}
use Rattle.hc_run.specs.Receiving.{IsTurn}
use Rattle.hc_run.specs.Shows.{Shows}
use Rattle.hc_run.specs.StepLaws.{LeadsTo}
use Rattle.hc_run.specs.WholeTurns.{told_by}
use Rattle.hc_run.proofs.Assembled.{assembled, up-stands}
use Rattle.hc_run.proofs.Finishing.{passes-after}
use Rattle.hc_run.proofs.Journals.{grown}
use Rattle.hc_run.proofs.Receiving.{datagram_turns, timed_turns}
use Rattle.hc_run.proofs.Stops.{leads-up}
use Rattle.hc_run.proofs.Turns.{turns}

-- what v passed of its batch, after what was passed before
pub passed-more : (v : ℕ) (m : MemberState) (w : ProtocolState) (before : List Passed) → w.passed ≡ map passed_in before
    → passed_by v m ++ w.passed ≡ map passed_in (passes v (m.applied + 1) (batch_of (due m)) before)
passed-more v m w before same =
    let all = passes v (m.applied + 1) (batch_of (due m)) [] in
    ap (λ (l : List WorldPassed). passed_by v m ++ l) same
    ∙ sym (map-append passed_in all before)
    ∙ ap (map passed_in) (sym (passes-after v (m.applied + 1) (batch_of (due m)) before))

-- a turn that is rules leads to what it makes of the group
pub turn-leads : (g : Group) (w : ProtocolState) (s : GroupState) (v : ℕ) (e : Event) (m : MemberState) → IsGroup g → Shows g w s → member_at s v ≡ Some m
    → IsTurn (setup_of g v) w m e → LeadsTo g w (makes_turn g v e m s)
unfolding makes_turn with_sent with_heard with_finished
turn-leads g w s v e m is shows up turn =
    let setup = setup_of g v in
    let here = up-stands g w s v m is shows up in
    let stands = here.stands in
    let shown = stands.shown in
    let are = turn.are in
    let x = after_rules w turn.rules in
    let made = turned setup m e in
    let did = turns setup m e stands.setup shown.sound in
    let longer = grown (journal_at s v) (durable_of m) (durable_of made.member) made.stored here.history here.durable did.stores in
    let after_all = are.shown in
    let holds = after_all.holds in
    assembled g w s (makes_turn g v e m s) v (record { journal = with_stored (journal_at s v) made.stored; member = Some made.member }) made.sends turn.rules shows here.inside
    (record {
      own = are.own;
      allowed = are.allowed;
      place =
          record {
            history = longer.history;
            bodies = subst (λ (d : State). All (IsStoredOf x.table) d.log) longer.leads holds.bodies;
            member = (are.shown, longer.leads);
          };
      sent = did.sends;
      backed = are.backed;
      passed = are.passed ∙ passed-more v m w s.passed shows.passed;
      reports = are.reports ∙ ap (told_by setup m e) shows.reports;
    })
    (record { replicas = refl; tally = refl; table = refl; datagrams = refl; replied = refl })

-- at a tick, and where nothing comes
pub tick-leads : (g : Group) (w : ProtocolState) (s : GroupState) (v : ℕ) (m : MemberState) → IsGroup g → Shows g w s → member_at s v ≡ Some m
    → LeadsTo g w (makes_turn g v event.Tick m s)
tick-leads g w s v m is shows up =
    let here = up-stands g w s v m is shows up in
    let both = timed_turns (setup_of g v) w m here.stands in
    turn-leads g w s v event.Tick m is shows up both.0

pub quiet-leads : (g : Group) (w : ProtocolState) (s : GroupState) (v : ℕ) (m : MemberState) → IsGroup g → Shows g w s → member_at s v ≡ Some m
    → LeadsTo g w (makes_turn g v event.Quiet m s)
quiet-leads g w s v m is shows up =
    let here = up-stands g w s v m is shows up in
    let both = timed_turns (setup_of g v) w m here.stands in
    turn-leads g w s v event.Quiet m is shows up both.1

-- Datagrams --

-- a datagram with a number was backed
pub datagram-backed : (g : Group) (w : ProtocolState) (s : GroupState) (number : ℕ) (d : Datagram) → Shows g w s → slice_get s.datagrams number ≡ Some d
    → IsBackedDatagram g.members w d
datagram-backed g w s number d shows sent =
    subst (IsBackedDatagram g.members w) (get_or_from_slice_get s.datagrams number d d sent)
    (All-get_or (IsBackedDatagram g.members w) s.datagrams number d (slice_get_within s.datagrams number d sent) shows.datagrams)

-- what a member receives was sent to its address
pub to-member : (g : Group) (to : Addr) (v : ℕ) → receiver_at g to ≡ Member v → to ≡ own_address (setup_of g v)
unfolding receiver_at
to-member g to v receives = by _ (position (same_addr to) g.members) refl receives
  where
    other : (b : Bool) → other_receiver b ≡ Member v → to ≡ own_address (setup_of g v)
    other true e = absurd cc
    other false e = absurd cc

    by : (b : Bool) (found : Option ℕ) → position (same_addr to) g.members ≡ found → receiver_by b found ≡ Member v → to ≡ own_address (setup_of g v)
    by b (Some u) e f =
        let nobody : Addr = record { ip = 0; port = 0 } in
        let same : u ≡ v = cc in
        let there = position-Some (same_addr to) g.members u nobody e in
        subst (λ (k : ℕ). to ≡ get_or g.members k nobody) same (same_addr-true to (get_or g.members u nobody) there.1)
    by b None e f = other b f

-- a turn at a datagram that was sent to the member
pub datagram-turn : (g : Group) (w : ProtocolState) (s : GroupState) (number v : ℕ) (d : Datagram) (m : MemberState) → IsGroup g → Shows g w s
    → slice_get s.datagrams number ≡ Some d → receiver_at g d.to ≡ Member v → member_at s v ≡ Some m → IsTurn (setup_of g v) w m (event.Datagram d)
datagram-turn g w s number v d m is shows sent to up =
    let here = up-stands g w s v m is shows up in
    datagram_turns (setup_of g v) w m d here.stands (rw shows.table shows.asked) (to-member g d.to v to) (datagram-backed g w s number d shows sent)

-- such a datagram is delivered
pub delivered-leads : (g : Group) (w : ProtocolState) (s : GroupState) (number v : ℕ) (d : Datagram) → IsGroup g → Shows g w s
    → slice_get s.datagrams number ≡ Some d → receiver_at g d.to ≡ Member v → is_up s v ≡ true → LeadsTo g w (delivered g (slice_get s.datagrams number) s)
delivered-leads g w s number v d is shows sent to runs =
    subst (λ (p : Option Datagram). LeadsTo g w (delivered g p s)) (sym sent)
    (subst (λ (r : Receiver). LeadsTo g w (comes_to g r d s)) (sym to)
    (leads-up g w s (member_at s v) (makes_turn g v (event.Datagram d)) runs
    (λ m up. turn-leads g w s v (event.Datagram d) m is shows up (datagram-turn g w s number v d m is shows sent to up))))
