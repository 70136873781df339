-- What is seen after an event is a function of what was seen before.
use Rattle.std.proofs.Common.{cond, ◌≡◌, ℕ, ◌+◌, max, Bool, true, false, List, [], ◌∷◌, ◌++◌, length, Option, None, Some, refl, sym, ap, ◌∙◌}
use Rattle.std.specs.Prelude.{if◌then◌else◌, slice_get}
use Rattle.std.proofs.Common.{length-append}
use Rattle.std.proofs.lemmas.List.Sums.{sum_by-append}
use Rattle.r2_base.specs.declared.addr.Addr.{Addr}
use Rattle.r2_base.specs.declared.datagram.Datagram.{Datagram}
use Rattle.r2_base.specs.declared.event.Event.{Event}
use Rattle.r2_base.specs.declared.event.Event.TheVariants as event
use Rattle.hc_member.specs.Finish.{batch_of, due}
use Rattle.hc_member.specs.Member.{Member as MemberState}
use Rattle.hc_aggregate.specs.Tally.{Tally, no_tally}
use Rattle.hc_aggregate.specs.Turn.{AggregatorState, sent, turned as aggregator_turned}
use Rattle.hc_log.specs.declared.record.Record.{Record}
use Rattle.r2_base.specs.declared.entry.Kind.{Kind}
use Rattle.hc_log.specs.declared.stored.Stored.{Stored}
use Rattle.hc_member.specs.Sending.{datagrams_of_all}
use Rattle.hc_member.specs.Turn.{turned}
use Rattle.hc_run.specs.Group.{Group, Receiver, Member, Aggregator, Outside, receiver_at, setup_of}
use Rattle.hc_run.specs.State.{GroupState, Passed, Replica, journal_at, member_at, started, stopped, with_replica}
use Rattle.hc_run.specs.Steps as group
use Rattle.hc_run.specs.Steps.{event_of as event_at, lasts, passes, step, with_stored}
use Rattle.hc_world.specs.declared.event.WorldEvent.{WorldEvent}
use Rattle.hc_world.specs.declared.event.WorldEvent.TheVariants.{ClientSend, Deliver, Tick, Quiet, Crash, Restart, CrashInTurn, Forget}
use Rattle.hc_world.specs.Events.{event_of, request_at}
use Rattle.hc_world.specs.Notes.{begins_reply, capped, replies_in}
use Rattle.hc_world.specs.Seen.{Seen, greatest_passed, seen}
use Rattle.hc_world.specs.Steps.{acts, aggregates, asks, comes_to, counts_event, crashes, crashes_between, crashes_within, delivers, forgets, happens, packet_at, passes_to, reach, restarts, seen_after, sends, turns, where_up, with_place}
use Rattle.hc_world.proofs.Either.{answered-append}
use Rattle.hc_world.proofs.Numbers.{capped-max, capped-plus, passed-both}

-- what is seen, by its parts
abbrev pub seen_with : Group → List Replica → Tally → List Datagram → List Bool → (events requests replies passed crashes : ℕ) → Seen
seen_with g r t d a e q n p c =
    record {
      group = g;
      replicas = r;
      tally = t;
      datagrams = d;
      answered = a;
      events = e;
      requests = q;
      replies = n;
      passed = p;
      crashes = c;
    }

pub seen-equal : (g : Group) (r : List Replica) (t : Tally) (d : List Datagram) (a a' : List Bool) (e e' q q' n n' p p' c c' : ℕ) → a ≡ a' → e ≡ e' → q ≡ q' → n ≡ n' → p ≡ p' → c ≡ c'
    → seen_with g r t d a e q n p c ≡ seen_with g r t d a' e' q' n' p' c'
seen-equal g r t d a a' e e' q q' n n' p p' c c' i j k l m o = cc

pub replies-append : (xs ys : List Datagram) → replies_in (xs ++ ys) ≡ replies_in xs + replies_in ys
unfolding replies_in
replies-append xs ys = sum_by-append (λ (d : Datagram). cond (begins_reply d) 1 0) xs ys

replies-more : (xs ys : List Datagram) → capped (replies_in (xs ++ ys)) ≡ capped (capped (replies_in xs) + replies_in ys)
replies-more xs ys = ap capped (replies-append xs ys) ∙ capped-plus (replies_in xs) (replies_in ys)

passed-more : (v index : ℕ) (batch : List Stored) (before : List Passed)
    → capped (greatest_passed (passes v index batch before)) ≡ max (capped (greatest_passed before)) (capped (greatest_passed (passes v index batch [])))
passed-more v index batch before =
    ap capped (passed-both v index batch before) ∙ capped-max (greatest_passed before) (greatest_passed (passes v index batch []))

module _ (g : Group) where
  -- a turn
  seen-turn : (v : ℕ) (e : Event) (m : MemberState) (s : GroupState) → seen g (group.makes_turn g v e m s) ≡ turns v e m (seen g s)
  unfolding seen sends reach group.makes_turn group.with_sent group.with_heard group.with_finished
  seen-turn v e m s =
      let r = turned (setup_of g v) m e in
      let sent = datagrams_of_all (setup_of g v) r.sends in
      seen-equal g _ s.tally (s.datagrams ++ sent) _ _ _ _ _ _ _ _ _ _ _ _
      (answered-append s.datagrams sent) refl refl (replies-more s.datagrams sent) (passed-more v (m.applied + 1) (batch_of (due m)) s.passed) refl

  -- where a member is up
  seen-where : (found : Option MemberState) (does : MemberState → GroupState → GroupState) (shows : MemberState → Seen → Seen) (s : GroupState)
      → ((m : MemberState) → seen g (does m s) ≡ shows m (seen g s)) → seen g (group.where_up found does s) ≡ where_up found shows (seen g s)
  seen-where (Some m) does shows s each = each m
  seen-where None does shows s each = refl

  seen-acts : (v : ℕ) (does : MemberState → GroupState → GroupState) (shows : MemberState → Seen → Seen) (s : GroupState)
      → ((m : MemberState) → seen g (does m s) ≡ shows m (seen g s)) → seen g (group.acts v does s) ≡ acts v shows (seen g s)
  unfolding seen
  seen-acts v does shows s each = seen-where (member_at s v) does shows s each

  -- a crash
  seen-crash : (v : ℕ) (m : MemberState) (s : GroupState) → seen g (group.crashes (group.stops v (journal_at s v) s)) ≡ crashes_between v m (seen g s)
  unfolding seen
  seen-crash v m s = seen-equal g _ s.tally s.datagrams _ _ _ _ _ _ _ _ _ _ _ _ refl refl refl refl refl (capped-plus s.crashes 1)

  -- a crash within a turn
  seen-within : (v : ℕ) (e : Event) (kept : Bool) (m : MemberState) (s : GroupState) → seen g (group.crashes_in_turn g v e kept m s) ≡ crashes_within v e kept m (seen g s)
  unfolding seen reach group.crashes_in_turn group.with_heard group.with_finished
  seen-within v e kept m s = by (lasts kept stored)
    where
      stored : Option Record
      stored = (turned (setup_of g v) m e).stored

      by : (b : Bool)
          → seen g (if b then group.crashes (group.stops v (with_stored (journal_at s v) stored) (group.with_facts g v m e s)) else group.crashes (group.stops v (journal_at s v) (group.with_finished g v m s)))
          ≡ crashes (passes_to (reach (setup_of g v) m) (with_place v (stopped (if b then with_stored (journal_at s v) stored else journal_at s v)) (seen g s)))
      by true = seen-equal g _ s.tally s.datagrams _ _ _ _ _ _ _ _ _ _ _ _ refl refl refl refl (passed-more v (m.applied + 1) (batch_of (due m)) s.passed) (capped-plus s.crashes 1)
      by false = seen-equal g _ s.tally s.datagrams _ _ _ _ _ _ _ _ _ _ _ _ refl refl refl refl (passed-more v (m.applied + 1) (batch_of (due m)) s.passed) (capped-plus s.crashes 1)

  -- a request
  seen-asked : (kind : Kind) (body : List ℕ) (s : GroupState) → seen g (group.asked g (request_at (capped (length s.table)) kind body) s) ≡ asks kind body (seen g s)
  unfolding seen sends group.asked
  seen-asked kind body s =
      let q = request_at (capped (length s.table)) kind body in
      let sent = group.request_parts g q in
      seen-equal g s.replicas s.tally (s.datagrams ++ sent) _ _ _ _ _ _ _ _ _ _ _ _
      (answered-append s.datagrams sent) refl (ap capped (length-append s.table (q ∷ [])) ∙ capped-plus (length s.table) 1) (replies-more s.datagrams sent) refl refl

  -- the aggregator
  seen-aggregates : (me : Addr) (e : Event) (s : GroupState) → seen g (group.aggregates g me e s) ≡ aggregates me e (seen g s)
  unfolding seen sends
  seen-aggregates me e s =
      let before : AggregatorState = record { me = me; members = g.members; tally = s.tally } in
      seen-equal g s.replicas (aggregator_turned before e).tally (s.datagrams ++ sent before e) _ _ _ _ _ _ _ _ _ _ _ _
      (answered-append s.datagrams (sent before e)) refl refl (replies-more s.datagrams (sent before e)) refl refl

  seen-comes : (to : Receiver) (d : Datagram) (s : GroupState) → seen g (group.comes_to g to d s) ≡ comes_to to d (seen g s)
  seen-comes (Member v) d s = seen-acts v (group.makes_turn g v (event.Datagram d)) (turns v (event.Datagram d)) s (λ m. seen-turn v (event.Datagram d) m s)
  seen-comes Aggregator d s = seen-aggregates d.to (event.Datagram d) s
  seen-comes Outside d s = refl

  seen-delivers : (packet : Option Datagram) (s : GroupState) → seen g (group.delivered g packet s) ≡ delivers packet (seen g s)
  unfolding seen
  seen-delivers (Some d) s = seen-comes (receiver_at g d.to) d s
  seen-delivers None s = refl

  packet-same : (packet : Option ℕ) (s : GroupState) → group.packet_at s packet ≡ packet_at (seen g s) packet
  unfolding seen
  packet-same (Some number) s = refl
  packet-same None s = refl

  seen-restart : (v : ℕ) (s : GroupState) → seen g (with_replica s v (started (journal_at s v))) ≡ restarts v (seen g s)
  unfolding seen
  seen-restart v s = refl

  seen-forget : (s : GroupState) → seen g (record s { tally = no_tally (length g.members) }) ≡ forgets (seen g s)
  unfolding seen
  seen-forget s = refl

  requests-is : (s : GroupState) → (seen g s).requests ≡ capped (length s.table)
  unfolding seen
  requests-is s = refl

  there-is : (number : ℕ) (s : GroupState) → slice_get (seen g s).datagrams number ≡ slice_get s.datagrams number
  unfolding seen
  there-is number s = refl

  seen-happens : (e : WorldEvent) (sent : ℕ) (s : GroupState) → sent ≡ (seen g s).requests → seen g (group.happens g (event_of sent e) s) ≡ happens e (seen g s)
  seen-happens (ClientSend kind body) sent s same =
      ap (λ (n : ℕ). seen g (group.asked g (request_at n kind body) s)) (same ∙ requests-is s) ∙ seen-asked kind body s
  seen-happens (Deliver packet) sent s same = seen-delivers (slice_get s.datagrams packet) s ∙ ap (λ (o : Option Datagram). delivers o (seen g s)) (sym (there-is packet s))
  seen-happens (Tick v) sent s same = seen-acts v (group.makes_turn g v event.Tick) (turns v event.Tick) s (λ m. seen-turn v event.Tick m s)
  seen-happens (Quiet v) sent s same = seen-acts v (group.makes_turn g v event.Quiet) (turns v event.Quiet) s (λ m. seen-turn v event.Quiet m s)
  seen-happens (Crash v) sent s same = seen-acts v (λ m s. group.crashes (group.stops v (journal_at s v) s)) (crashes_between v) s (λ m. seen-crash v m s)
  seen-happens (Restart v) sent s same = seen-restart v s
  seen-happens (CrashInTurn v packet kept) sent s same =
      seen-acts v (group.crashes_in_turn g v (event_at (group.packet_at s packet)) kept) (crashes_within v (event_at (group.packet_at s packet)) kept) s
      (λ m. seen-within v (event_at (group.packet_at s packet)) kept m s)
      ∙ ap (λ (o : Option Datagram). acts v (crashes_within v (event_at o) kept) (seen g s)) (packet-same packet s)
  seen-happens Forget sent s same = seen-forget s

  seen-counted : (s : GroupState) → seen g (record s { events = s.events + 1 }) ≡ counts_event (seen g s)
  unfolding seen
  seen-counted s = seen-equal g s.replicas s.tally s.datagrams _ _ _ _ _ _ _ _ _ _ _ _ refl (capped-plus s.events 1) refl refl refl refl

  -- what is seen after an event is a function of what was seen before
  pub seen-step : (e : WorldEvent) (sent : ℕ) (s : GroupState) → sent ≡ (seen g s).requests → seen g (step g s (event_of sent e)) ≡ seen_after (seen g s) e
  unfolding step seen_after
  seen-step e sent s same = seen-counted (group.happens g (event_of sent e) s) ∙ ap counts_event (seen-happens e sent s same)
