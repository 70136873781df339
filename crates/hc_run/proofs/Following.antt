-- A state that a group comes to later: nothing of what happened is lost, and further replies have later places.
use Rattle.std.proofs.Common.{◌≡◌, ℕ, zero, suc, ◌+◌, ◌≤◌, Bool, true, false, List, [], ◌∷◌, ◌++◌, length, Option, None, Some, refl, sym, ap, ◌∙◌, arith, append_assoc, append-nil, inl, inr}
use Rattle.std.specs.Prelude.{if◌then◌else◌, slice_get, slice_set}
use Rattle.std.proofs.lemmas.List.{length-append}
use Rattle.r2_base.specs.declared.addr.Addr.{Addr}
use Rattle.r2_base.specs.declared.datagram.Datagram.{Datagram}
use Rattle.r2_base.specs.declared.event.Event.{Event}
use Rattle.r2_base.specs.declared.event.Event.TheVariants as event
use Rattle.hc_log.specs.declared.record.Record.{Record}
use Rattle.hc_member.specs.declared.role.Role.{Role}
use Rattle.hc_member.specs.declared.role.Role.TheVariants.{Follower, Candidate, Leader}
use Rattle.hc_member.specs.Finish.{batch_of, due, finished}
use Rattle.hc_member.specs.Heard.{receive, with_received}
use Rattle.hc_member.specs.Member.{Member as MemberState}
use Rattle.hc_member.specs.Reports.{report_in}
use Rattle.hc_member.specs.Sending.{Sending, Tell, Recover, Reply as ReplyTo, datagrams_of_all}
use Rattle.hc_member.specs.Turn.{turned}
use Rattle.hc_aggregate.specs.Tally.{Tally, no_tally}
use Rattle.hc_aggregate.specs.Turn.{sent}
use Rattle.hc_rules.specs.Log.{In}
use Rattle.hc_rules.specs.Message.{Report, Reply, Request}
use Rattle.hc_run.specs.Group.{Group, Receiver, Member, Aggregator, Outside, receiver_at, setup_of}
use Rattle.hc_run.specs.State.{GroupState, Passed, Replica, journal_at, member_at, started, stopped, with_replica}
use Rattle.hc_run.specs.Events.{GroupEvent, ClientSend, Deliver, Tick, Quiet, Crash, Restart, CrashInTurn, Forget, End}
use Rattle.hc_run.specs.Runs.{after_events}
use Rattle.hc_run.specs.Staying.{IsExtendedTo, IsExtendedNewestFirst}
use Rattle.hc_run.specs.Steps.{aggregates, asked, comes_to, crashes, crashes_in_turn, delivered, ends, event_of, happens, heard_report, lasts, makes_turn, own_report, packet_at, passes, replies, reply_from, request_parts, step, stops, where_up, with_facts, with_finished, with_heard, with_sent, with_stored, with_turned}
use Rattle.hc_run.proofs.Finishing.{passes-after}
use Rattle.hc_run.proofs.Items.{in-parts}

-- Lists that are extended --

extended-none : {A : Type 0} (l : List A) → IsExtendedTo l l
extended-none l = record { later = []; split = sym (append-nil l) }

extended-then : {A : Type 0} (a b c : List A) → IsExtendedTo a b → IsExtendedTo b c → IsExtendedTo a c
extended-then {A = A} a b c one two =
    record {
      later = one.later ++ two.later;
      split = two.split ∙ ap (λ (l : List A). l ++ two.later) one.split ∙ append_assoc a one.later two.later;
    }

extended-length : {A : Type 0} (a b : List A) → IsExtendedTo a b → length a ≤ length b
extended-length a b one =
    let e = ap length one.split ∙ length-append a one.later in omega (arith, e)

newest-none : {A : Type 0} (l : List A) → IsExtendedNewestFirst l l
newest-none l = record { newer = []; split = refl }

newest-then : {A : Type 0} (a b c : List A) → IsExtendedNewestFirst a b → IsExtendedNewestFirst b c → IsExtendedNewestFirst a c
newest-then {A = A} a b c one two =
    record {
      newer = two.newer ++ one.newer;
      split = two.split ∙ ap (λ (l : List A). two.newer ++ l) one.split ∙ sym (append_assoc two.newer one.newer a);
    }

-- Replies --

-- further replies are placed between two lengths of a table
pub record Adds (low high : ℕ) (before now : List Reply) : Type 0 where
  pub newer : List Reply
  pub split : now ≡ newer ++ before
  pub placed : (r : Reply) → In r newer → (low ≤ r.place) × (r.place ≤ high)

adds-none : (low high : ℕ) (l : List Reply) → Adds low high l l
adds-none low high l = record { newer = []; split = refl; placed = λ r there. absurd there }

adds-then : (low middle high : ℕ) (a b c : List Reply) → low ≤ middle → middle ≤ high → Adds low middle a b → Adds middle high b c → Adds low high a c
adds-then low middle high a b c first second one two =
    record {
      newer = two.newer ++ one.newer;
      split = two.split ∙ ap (λ (l : List Reply). two.newer ++ l) one.split ∙ sym (append_assoc two.newer one.newer a);
      placed = λ r there.
          elim (in-parts r two.newer one.newer there) [
            | inl late ↦ let in-two = two.placed r late in let p = in-two.0 in let q = in-two.1 in (omega (arith, p, first), q)
            | inr early ↦ let in-one = one.placed r early in let p = in-one.0 in let q = in-one.1 in (p, omega (arith, q, second))
          ];
    }

-- a reply that is made now
adds-one : (place : ℕ) (x : Reply) (l : List Reply) → x.place ≡ place → Adds place place l (x ∷ l)
adds-one place x l at =
    record { newer = x ∷ []; split = refl; placed = λ r there. by r there }
  where
    by : (r : Reply) → In r (x ∷ []) → (place ≤ r.place) × (r.place ≤ place)
    by r (inl same) = let e : r.place ≡ place = ap (λ (y : Reply). y.place) same ∙ at in (omega (arith, e), omega (arith, e))
    by r (inr none) = absurd none

replies-add : (place : ℕ) (sends : List Sending) (before : List Reply) → Adds place place before (replies place sends before)
replies-add place [] before = adds-none place place before
replies-add place (ReplyTo reply ∷ later) before =
    let x = reply_from place reply in
    adds-then place place place before (x ∷ before) (replies place later (x ∷ before)) (omega arith) (omega arith) (adds-one place x before refl)
    (replies-add place later (x ∷ before))
replies-add place (Tell to message ∷ later) before = replies-add place later before
replies-add place (Recover to rid message ∷ later) before = replies-add place later before

-- States --

-- t is later than s: what happened stays, and further replies have places between the lengths of the tables
pub record Follows (s t : GroupState) : Type 0 where
  pub datagrams : IsExtendedTo s.datagrams t.datagrams
  pub table : IsExtendedTo s.table t.table
  pub passed : IsExtendedNewestFirst s.passed t.passed
  pub replied : Adds (length s.table) (length t.table) s.replied t.replied
  pub reports : IsExtendedNewestFirst s.reports t.reports
  pub events : s.events ≤ t.events
  pub crashes : s.crashes ≤ t.crashes

follows-itself : (s : GroupState) → Follows s s
follows-itself s =
    record {
      datagrams = extended-none s.datagrams;
      table = extended-none s.table;
      passed = newest-none s.passed;
      replied = adds-none (length s.table) (length s.table) s.replied;
      reports = newest-none s.reports;
      events = omega arith;
      crashes = omega arith;
    }

follows-then : (s t u : GroupState) → Follows s t → Follows t u → Follows s u
follows-then s t u one two =
    let events-one = one.events in
    let events-two = two.events in
    let crashes-one = one.crashes in
    let crashes-two = two.crashes in
    record {
      datagrams = extended-then s.datagrams t.datagrams u.datagrams one.datagrams two.datagrams;
      table = extended-then s.table t.table u.table one.table two.table;
      passed = newest-then s.passed t.passed u.passed one.passed two.passed;
      replied = adds-then (length s.table) (length t.table) (length u.table) s.replied t.replied u.replied (extended-length s.table t.table one.table)
          (extended-length t.table u.table two.table) one.replied two.replied;
      reports = newest-then s.reports t.reports u.reports one.reports two.reports;
      events = omega (arith, events-one, events-two);
      crashes = omega (arith, crashes-one, crashes-two);
    }

-- What members do --

-- no datagrams and no replies come, and no requests
silent-follows : (s : GroupState) (replicas : List Replica) (tally : Tally) (passed : List Passed) (reports : List Report) (crashes : ℕ) → IsExtendedNewestFirst s.passed passed
    → IsExtendedNewestFirst s.reports reports → s.crashes ≤ crashes
    → Follows s (record s { replicas = replicas; tally = tally; passed = passed; reports = reports; crashes = crashes })
silent-follows s replicas tally passed reports crashes more told counted =
    record {
      datagrams = extended-none s.datagrams;
      table = extended-none s.table;
      passed = more;
      replied = adds-none (length s.table) (length s.table) s.replied;
      reports = told;
      events = omega arith;
      crashes = counted;
    }

-- a member's place changes
place-follows : (v : ℕ) (r : Replica) (s : GroupState) → Follows s (with_replica s v r)
place-follows v r s =
    silent-follows s (slice_set s.replicas v r) s.tally s.passed s.reports s.crashes (newest-none s.passed) (newest-none s.reports) (omega arith)

-- a crash is counted
crash-follows : (s : GroupState) → Follows s (crashes s)
crash-follows s =
    silent-follows s s.replicas s.tally s.passed s.reports (s.crashes + 1) (newest-none s.passed) (newest-none s.reports) (omega arith)

own-newest : (v : ℕ) (m : MemberState) (r : Role) (before : List Report) → IsExtendedNewestFirst before (own_report v m r before)
own-newest v m Leader before = record { newer = record { leader = v; term = m.term; member = v; index = m.applied } ∷ []; split = refl }
own-newest v m Follower before = newest-none before
own-newest v m Candidate before = newest-none before

heard-newest : (v term : ℕ) (heard : Option (ℕ × ℕ)) (before : List Report) → IsExtendedNewestFirst before (heard_report v term heard before)
heard-newest v term (Some (member, applied)) before =
    record { newer = record { leader = v; term = term; member = member; index = applied } ∷ []; split = refl }
heard-newest v term None before = newest-none before

module _ (g : Group) (v : ℕ) where
  finish-follows : (m : MemberState) (s : GroupState) → Follows s (with_finished g v m s)
  unfolding with_finished
  finish-follows m s =
      let after = (finished (setup_of g v) m).member in
      let list = batch_of (due m) in
      silent-follows s s.replicas s.tally (passes v (m.applied + 1) list s.passed) (own_report v after after.role s.reports) s.crashes
      (record { newer = passes v (m.applied + 1) list []; split = passes-after v (m.applied + 1) list s.passed })
      (own-newest v after after.role s.reports) (omega arith)

  heard-follows : (m : MemberState) (e : Event) (s : GroupState) → Follows s (with_heard g v m e s)
  unfolding with_heard
  heard-follows m e s =
      let heard = report_in (setup_of g v) (with_received m e) (receive m.unfinished e).said in
      silent-follows s s.replicas s.tally s.passed (heard_report v m.term heard s.reports) s.crashes (newest-none s.passed)
      (heard-newest v m.term heard s.reports) (omega arith)

  sent-follows : (sends : List Sending) (s : GroupState) → Follows s (with_sent g v sends s)
  unfolding with_sent
  sent-follows sends s =
      record {
        datagrams = record { later = datagrams_of_all (setup_of g v) sends; split = refl };
        table = extended-none s.table;
        passed = newest-none s.passed;
        replied = replies-add (length s.table) sends s.replied;
        reports = newest-none s.reports;
        events = omega arith;
        crashes = omega arith;
      }

  -- what is known after a turn but for what it sends
  facts-follow : (m : MemberState) (e : Event) (s : GroupState) → Follows s (with_facts g v m e s)
  facts-follow m e s =
      let t = with_finished g v m s in
      let after = (finished (setup_of g v) m).member in
      follows-then s t (with_heard g v after e t) (finish-follows m s) (heard-follows after e t)

  turn-follows : (e : Event) (m : MemberState) (s : GroupState) → Follows s (makes_turn g v e m s)
  unfolding makes_turn
  turn-follows e m s =
      let r = turned (setup_of g v) m e in
      let t = with_turned v r s in
      let u = with_facts g v m e t in
      let there = place-follows v (record { journal = with_stored (journal_at s v) r.stored; member = Some r.member }) s in
      follows-then s u (with_sent g v r.sends u) (follows-then s t u there (facts-follow m e t)) (sent-follows r.sends u)

  -- v stops, and a crash is counted
  stop-follows : (journal : List Record) (s t : GroupState) → Follows s t → Follows s (crashes (stops v journal t))
  stop-follows journal s t one =
      let u = stops v journal t in
      follows-then s u (crashes u) (follows-then s t u one (place-follows v (stopped journal) t)) (crash-follows u)

  crash-by : (b : Bool) (e : Event) (m : MemberState) (s : GroupState)
      → Follows s (if b then crashes (stops v (with_stored (journal_at s v) (turned (setup_of g v) m e).stored) (with_facts g v m e s))
      else crashes (stops v (journal_at s v) (with_finished g v m s)))
  crash-by true e m s =
      stop-follows (with_stored (journal_at s v) (turned (setup_of g v) m e).stored) s (with_facts g v m e s) (facts-follow m e s)
  crash-by false e m s = stop-follows (journal_at s v) s (with_finished g v m s) (finish-follows m s)

  crash-in-turn : (e : Event) (kept : Bool) (m : MemberState) (s : GroupState) → Follows s (crashes_in_turn g v e kept m s)
  unfolding crashes_in_turn
  crash-in-turn e kept m s = crash-by (lasts kept (turned (setup_of g v) m e).stored) e m s

  ends-follow : (times : ℕ) (m : MemberState) (s : GroupState) → Follows s (ends g v times m s)
  unfolding ends
  ends-follow zero m s = place-follows v (stopped (journal_at s v)) s
  ends-follow (suc times) m s =
      let f = finished (setup_of g v) m in
      let t = with_finished g v m s in
      let u = with_sent g v f.sends t in
      follows-then s u (ends g v times f.member u) (follows-then s t u (finish-follows m s) (sent-follows f.sends t)) (ends-follow times f.member u)

-- what a member does that is up
up-follows : (s : GroupState) (found : Option MemberState) (does : MemberState → GroupState → GroupState) → ((m : MemberState) → Follows s (does m s))
    → Follows s (where_up found does s)
up-follows s (Some m) does each = each m
up-follows s None does each = follows-itself s

-- Events --

module _ (g : Group) (s : GroupState) where
  asks-follow : (q : Request) → Follows s (asked g q s)
  unfolding asked
  asks-follow q =
      record {
        datagrams = record { later = request_parts g q; split = refl };
        table = record { later = q ∷ []; split = refl };
        passed = newest-none s.passed;
        replied = adds-none (length s.table) (length (s.table ++ q ∷ [])) s.replied;
        reports = newest-none s.reports;
        events = omega arith;
        crashes = omega arith;
      }

  aggregates-follow : (me : Addr) (e : Event) → Follows s (aggregates g me e s)
  aggregates-follow me e =
      record {
        datagrams = record { later = sent (record { me = me; members = g.members; tally = s.tally }) e; split = refl };
        table = extended-none s.table;
        passed = newest-none s.passed;
        replied = adds-none (length s.table) (length s.table) s.replied;
        reports = newest-none s.reports;
        events = omega arith;
        crashes = omega arith;
      }

  forgets-follow : Follows s (record s { tally = no_tally (length g.members) })
  forgets-follow =
      silent-follows s s.replicas (no_tally (length g.members)) s.passed s.reports s.crashes (newest-none s.passed) (newest-none s.reports) (omega arith)

  comes-follow : (to : Receiver) (d : Datagram) → Follows s (comes_to g to d s)
  comes-follow (Member v) d = up-follows s (member_at s v) (makes_turn g v (event.Datagram d)) (λ m. turn-follows g v (event.Datagram d) m s)
  comes-follow Aggregator d = aggregates-follow d.to (event.Datagram d)
  comes-follow Outside d = follows-itself s

  delivered-follow : (packet : Option Datagram) → Follows s (delivered g packet s)
  delivered-follow (Some d) = comes-follow (receiver_at g d.to) d
  delivered-follow None = follows-itself s

  happens-follow : (e : GroupEvent) → Follows s (happens g e s)
  happens-follow (ClientSend q) = asks-follow q
  happens-follow (Deliver number) = delivered-follow (slice_get s.datagrams number)
  happens-follow (Tick v) = up-follows s (member_at s v) (makes_turn g v event.Tick) (λ m. turn-follows g v event.Tick m s)
  happens-follow (Quiet v) = up-follows s (member_at s v) (makes_turn g v event.Quiet) (λ m. turn-follows g v event.Quiet m s)
  happens-follow (Crash v) =
      up-follows s (member_at s v) (λ m s. crashes (stops v (journal_at s v) s)) (λ m. stop-follows g v (journal_at s v) s s (follows-itself s))
  happens-follow (Restart v) = place-follows v (started (journal_at s v)) s
  happens-follow (CrashInTurn v packet kept) =
      up-follows s (member_at s v) (crashes_in_turn g v (event_of (packet_at s packet)) kept) (λ m. crash-in-turn g v (event_of (packet_at s packet)) kept m s)
  happens-follow Forget = forgets-follow
  happens-follow (End v times) = up-follows s (member_at s v) (ends g v times) (λ m. ends-follow g v times m s)

  step-follows : (e : GroupEvent) → Follows s (step g s e)
  unfolding step
  step-follows e =
      let one = happens-follow e in
      let more = one.events in
      record {
        datagrams = one.datagrams;
        table = one.table;
        passed = one.passed;
        replied = one.replied;
        reports = one.reports;
        events = omega (arith, more);
        crashes = one.crashes;
      }

-- a state after events is later
pub events-later : (g : Group) (s : GroupState) (events : List GroupEvent) → Follows s (after_events g s events)
events-later g s [] = follows-itself s
events-later g s (e ∷ more) =
    follows-then s (step g s e) (after_events g (step g s e) more) (step-follows g s e) (events-later g (step g s e) more)
