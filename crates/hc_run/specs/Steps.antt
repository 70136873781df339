-- What an event comes to: the members' own turns and the aggregator's own, and what they send.
use Rattle.std.specs.Prelude.{ℕ, zero, suc, ◌+◌, Bool, true, false, if◌then◌else◌, List, [], ◌∷◌, ◌++◌, length, slice_get, Option, Some, None}
use Rattle.std.specs.List.{flat_map}
use Rattle.byteorder.specs.Endian.{big_number}
use Rattle.r2_base.specs.declared.addr.Addr.{Addr}
use Rattle.r2_base.specs.declared.datagram.Datagram.{Datagram}
use Rattle.r2_base.specs.declared.event.Event.{Event}
use Rattle.r2_base.specs.declared.event.Event.TheVariants as event
use Rattle.r2_frag.specs.declared.class.Class.TheVariants as class
use Rattle.r2_frag.specs.declared.kept.KeptReply.{KeptReply}
use Rattle.r2_frag.specs.declared.part_spec.PartSpec.{PartSpec}
use Rattle.r2_frag.specs.Parts.{parts_of}
use Rattle.hc_log.specs.declared.record.Record.{Record}
use Rattle.hc_log.specs.declared.stored.Stored.{Stored}
use Rattle.hc_member.specs.declared.role.Role.{Role}
use Rattle.hc_member.specs.declared.role.Role.TheVariants.{Leader}
use Rattle.hc_member.specs.Finish.{batch_of, due, finished}
use Rattle.hc_member.specs.Heard.{policy_of, receive, with_received}
use Rattle.hc_member.specs.Member.{Member as MemberState}
use Rattle.hc_member.specs.Reports.{report_in}
use Rattle.hc_member.specs.Sending.{Sending, Reply as ReplyTo, datagrams_of_all}
use Rattle.hc_member.specs.Turn.{Reacted, turned}
use Rattle.hc_aggregate.specs.Tally.{no_tally}
use Rattle.hc_aggregate.specs.Turn.{AggregatorState, sent, turned as aggregator_turned}
use Rattle.hc_rules.specs.Message.{Report, Reply, Request}
use Rattle.hc_run.specs.Group.{Group, Receiver, Member, Aggregator, Outside, receiver_at, setup_of}
use Rattle.hc_run.specs.State.{GroupState, Passed, journal_at, member_at, started, stopped, with_replica}
use Rattle.hc_run.specs.Events.{GroupEvent, ClientSend, Deliver, Tick, Quiet, Crash, Restart, CrashInTurn, Forget, End}

-- Clients --

-- what the datagrams of a client's request to a member have in common
abbrev pub request_spec : Request → Addr → PartSpec
request_spec q to =
    record {
      key = record { class = class.Request; policy = policy_of q.kind; from = q.rid.client; rid = q.rid };
      from = q.rid.client;
      to = to;
      extended = false;
    }

-- the parts of a request, to each member in turn
unfoldable pub request_parts : Group → Request → List Datagram
request_parts g q = flat_map (λ to. parts_of (request_spec q to) q.body) g.members

-- a client sends a request
unfoldable pub asked : Group → Request → GroupState → GroupState
asked g q s = record s { table = s.table ++ q ∷ []; datagrams = s.datagrams ++ request_parts g q }

-- A member's turn --

-- a journal with what a turn stored, if it stored something
abbrev pub with_stored : List Record → Option Record → List Record
with_stored journal (Some r) = journal ++ r ∷ []
with_stored journal None = journal

-- entries that v applies one after another, the first of them at an index, after what was applied before; the newest comes first
abbrev pub passes : ℕ → ℕ → List Stored → List Passed → List Passed
passes v index [] before = before
passes v index (stored ∷ later) before =
    passes v (index + 1) later (record { member = v; index = index; stored = stored } ∷ before)

-- the index in a reply: its first eight bytes
unfoldable pub index_in : List ℕ → ℕ
index_in payload = big_number 8 payload

-- a reply that goes out when the table has so many requests
abbrev pub reply_from : ℕ → KeptReply → Reply
reply_from place reply =
    record { request = reply.rid; index = index_in reply.payload; payload = reply.payload; place = place }

-- the replies among what is sent, after those before; the newest comes first
abbrev pub replies : ℕ → List Sending → List Reply → List Reply
replies place [] before = before
replies place (ReplyTo reply ∷ later) before = replies place later (reply_from place reply ∷ before)
replies place (_ ∷ later) before = replies place later before

-- a leader learns how far it applied itself
abbrev pub own_report : ℕ → MemberState → Role → List Report → List Report
own_report v m Leader before = record { leader = v; term = m.term; member = v; index = m.applied } ∷ before
own_report v m _ before = before

-- a leader learns from an acknowledgement how far a member applied
abbrev pub heard_report : ℕ → ℕ → Option (ℕ × ℕ) → List Report → List Report
heard_report v term (Some (member, applied)) before =
    record { leader = v; term = term; member = member; index = applied } ∷ before
heard_report v term None before = before

-- what is known once v finished what was pending: what it applied, and where it leads how far
unfoldable pub with_finished : Group → ℕ → MemberState → GroupState → GroupState
with_finished g v m s =
    let after = (finished (setup_of g v) m).member in
    record s {
      passed = passes v (m.applied + 1) (batch_of (due m)) s.passed;
      reports = own_report v after after.role s.reports;
    }

-- and once it heard of an event: what that reports to a leader
unfoldable pub with_heard : Group → ℕ → MemberState → Event → GroupState → GroupState
with_heard g v m e s =
    let said = (receive m.unfinished e).said in
    record s { reports = heard_report v m.term (report_in (setup_of g v) (with_received m e) said) s.reports }

-- v sends: its datagrams go out in their order, and the replies among them are made
unfoldable pub with_sent : Group → ℕ → List Sending → GroupState → GroupState
with_sent g v sends s =
    record s {
      datagrams = s.datagrams ++ datagrams_of_all (setup_of g v) sends;
      replied = replies (length s.table) sends s.replied;
    }

-- v has become what a turn makes of it, and its journal has what the turn stored
abbrev pub with_turned : ℕ → Reacted → GroupState → GroupState
with_turned v r s =
    with_replica s v (record { journal = with_stored (journal_at s v) r.stored; member = Some r.member })

-- what is known after a turn of v but for what it sends
abbrev pub with_facts : Group → ℕ → MemberState → Event → GroupState → GroupState
with_facts g v m e s = with_heard g v (finished (setup_of g v) m).member e (with_finished g v m s)

-- v makes a turn at an event: what is pending is applied, then it reacts; what it stores goes into its journal, and then what it
-- sends goes out
unfoldable pub makes_turn : Group → ℕ → Event → MemberState → GroupState → GroupState
makes_turn g v e m s =
    let r = turned (setup_of g v) m e in
    with_sent g v r.sends (with_facts g v m e (with_turned v r s))

-- Crashes and ends --

-- v is down, with this journal
abbrev pub stops : ℕ → List Record → GroupState → GroupState
stops v journal s = with_replica s v (stopped journal)

-- one crash more
abbrev pub crashes : GroupState → GroupState
crashes s = record s { crashes = s.crashes + 1 }

-- whether what a turn stored lasts: nothing was lost of it
abbrev pub lasts : Bool → Option Record → Bool
lasts kept (Some r) = kept
lasts kept None = true

-- v stops within a turn, before anything is sent. Where what it stored is lost, the first half of the turn alone counts
unfoldable pub crashes_in_turn : Group → ℕ → Event → Bool → MemberState → GroupState → GroupState
crashes_in_turn g v e kept m s =
    let stored = (turned (setup_of g v) m e).stored in
    if lasts kept stored then crashes (stops v (with_stored (journal_at s v) stored) (with_facts g v m e s))
    else crashes (stops v (journal_at s v) (with_finished g v m s))

-- v applies what is pending so many times, sends the replies, and stops
unfoldable pub ends : Group → ℕ → ℕ → MemberState → GroupState → GroupState
ends g v zero m s = stops v (journal_at s v) s
ends g v (suc times) m s =
    let f = finished (setup_of g v) m in
    ends g v times f.member (with_sent g v f.sends (with_finished g v m s))

-- Events --

-- v does something, where it is up
abbrev pub where_up : Option MemberState → (MemberState → GroupState → GroupState) → GroupState → GroupState
where_up (Some m) does s = does m s
where_up None does s = s

abbrev pub acts : ℕ → (MemberState → GroupState → GroupState) → GroupState → GroupState
acts v does s = where_up (member_at s v) does s

-- the aggregator makes a turn
abbrev pub aggregates : Group → Addr → Event → GroupState → GroupState
aggregates g me e s =
    let before : AggregatorState = record { me = me; members = g.members; tally = s.tally } in
    record s { tally = (aggregator_turned before e).tally; datagrams = s.datagrams ++ sent before e }

-- a datagram comes to whom it was sent to
abbrev pub comes_to : Group → Receiver → Datagram → GroupState → GroupState
comes_to g (Member v) d s = acts v (makes_turn g v (event.Datagram d)) s
comes_to g Aggregator d s = aggregates g d.to (event.Datagram d) s
comes_to g Outside d s = s

-- where it was sent
abbrev pub delivered : Group → Option Datagram → GroupState → GroupState
delivered g (Some d) s = comes_to g (receiver_at g d.to) d s
delivered g None s = s

-- a datagram or, where none is named, a tick
abbrev pub event_of : Option Datagram → Event
event_of (Some d) = event.Datagram d
event_of None = event.Tick

-- the datagram with this number, where one is named
abbrev pub packet_at : GroupState → Option ℕ → Option Datagram
packet_at s (Some number) = slice_get s.datagrams number
packet_at s None = None

-- what an event comes to
abbrev pub happens : Group → GroupEvent → GroupState → GroupState
happens g (ClientSend q) s = asked g q s
happens g (Deliver number) s = delivered g (slice_get s.datagrams number) s
happens g (Tick v) s = acts v (makes_turn g v event.Tick) s
happens g (Quiet v) s = acts v (makes_turn g v event.Quiet) s
happens g (Crash v) s = acts v (λ m s. crashes (stops v (journal_at s v) s)) s
happens g (Restart v) s = with_replica s v (started (journal_at s v))
happens g (CrashInTurn v packet kept) s = acts v (crashes_in_turn g v (event_of (packet_at s packet)) kept) s
happens g Forget s = record s { tally = no_tally (length g.members) }
happens g (End v times) s = acts v (ends g v times) s

-- the state after an event
unfoldable pub step : Group → GroupState → GroupEvent → GroupState
step g s e = let after = happens g e s in record after { events = after.events + 1 }
