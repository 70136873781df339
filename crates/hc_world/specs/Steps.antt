-- What an event makes of what is seen: the members' own turns and the aggregator's own, and what they send.
use Rattle.std.specs.Prelude.{◌≡◌, ℕ, ◌+◌, Bool, true, false, ◌||◌, max, if◌then◌else◌, List, [], ◌∷◌, ◌++◌, length, slice_get, slice_set, Option, Some, None}
use Rattle.r2_base.specs.declared.addr.Addr.{Addr}
use Rattle.r2_base.specs.declared.datagram.Datagram.{Datagram}
use Rattle.r2_base.specs.declared.entry.Kind.{Kind}
use Rattle.r2_base.specs.declared.event.Event.{Event}
use Rattle.r2_base.specs.declared.event.Event.TheVariants as event
use Rattle.hc_log.specs.declared.record.Record.{Record}
use Rattle.hc_member.specs.declared.setup.Setup.{Setup}
use Rattle.hc_member.specs.Finish.{batch_of, due}
use Rattle.hc_member.specs.Member.{Member as MemberState}
use Rattle.hc_member.specs.Sending.{datagrams_of_all}
use Rattle.hc_member.specs.Turn.{turned}
use Rattle.hc_aggregate.specs.Tally.{no_tally}
use Rattle.hc_aggregate.specs.Turn.{AggregatorState, sent, turned as aggregator_turned}
use Rattle.hc_run.specs.Group.{Receiver, Member, Aggregator, Outside, receiver_at, setup_of}
use Rattle.hc_run.specs.State.{Replica, started, stopped}
use Rattle.hc_run.specs.Steps.{event_of, lasts, passes, request_parts, with_stored}
use Rattle.hc_world.specs.declared.event.WorldEvent.{WorldEvent}
use Rattle.hc_world.specs.declared.event.WorldEvent.TheVariants.{ClientSend, Deliver, Tick, Quiet, Crash, Restart, CrashInTurn, Forget}
use Rattle.hc_world.specs.Events.{request_at}
use Rattle.hc_world.specs.Notes.{answered_in, capped, replies_in}
use Rattle.hc_world.specs.Seen.{Seen, greatest_passed, place_of}

-- what holds of a place in one of two lists
abbrev pub either : List Bool → List Bool → List Bool
either [] ys = []
either (x ∷ xs) [] = x ∷ xs
either (x ∷ xs) (y ∷ ys) = (x || y) ∷ either xs ys

-- an id is marked, where it is one of the client's
abbrev pub marked : Bool → ℕ → List Bool → List Bool
marked true id answered = slice_set answered id true
marked false id answered = answered

-- datagrams were sent after others: what was sent, which ids are answered and how many replies there are, before and after
pub record AreSent (more old : List Datagram) (answered : List Bool) (replies : ℕ) (new : List Datagram) (answered' : List Bool) (replies' : ℕ) : Type 0 where
  pub datagrams : new ≡ old ++ more
  pub ids : answered' ≡ either answered (answered_in more)
  pub count : replies' ≡ capped (replies + replies_in more)

-- datagrams go out, and the replies among them count
unfoldable pub sends : List Datagram → Seen → Seen
sends datagrams w =
    record w {
      datagrams = w.datagrams ++ datagrams;
      answered = either w.answered (answered_in datagrams);
      replies = capped (w.replies + replies_in datagrams);
    }

-- the greatest index at which a member applies an entry that finishes what is pending, and 0 where it applies none
unfoldable pub reach : Setup → MemberState → ℕ
reach s m = capped (greatest_passed (passes s.me (m.applied + 1) (batch_of (due m)) []))

-- an index was applied
abbrev pub passes_to : ℕ → Seen → Seen
passes_to index w = record w { passed = max w.passed index }

-- a member's place has changed
abbrev pub with_place : ℕ → Replica → Seen → Seen
with_place v r w = record w { replicas = slice_set w.replicas v r }

-- one crash more
abbrev pub crashes : Seen → Seen
crashes w = record w { crashes = capped (w.crashes + 1) }

-- the client sends a request
abbrev pub asks : Kind → List ℕ → Seen → Seen
asks kind body w =
    sends (request_parts w.group (request_at w.requests kind body)) (record w { requests = capped (w.requests + 1) })

-- a turn of v at an event leaves this place, and applied so much
abbrev pub turn_placed : ℕ → Event → MemberState → Seen → Seen
turn_placed v e m w =
    let s = setup_of w.group v in
    let r = turned s m e in
    passes_to (reach s m) (with_place v (record { journal = with_stored (place_of w v).journal r.stored; member = Some r.member }) w)

-- v makes a turn at an event, and what it sends goes out
abbrev pub turns : ℕ → Event → MemberState → Seen → Seen
turns v e m w =
    let s = setup_of w.group v in
    sends (datagrams_of_all s (turned s m e).sends) (turn_placed v e m w)

-- v stops between two turns
abbrev pub crashes_between : ℕ → MemberState → Seen → Seen
crashes_between v m w = crashes (with_place v (stopped (place_of w v).journal) w)

-- a journal after a turn in which its member stopped
abbrev pub journal_after : Bool → List Record → Option Record → List Record
journal_after kept journal stored = if lasts kept stored then with_stored journal stored else journal

-- v stops within a turn
abbrev pub crashes_within : ℕ → Event → Bool → MemberState → Seen → Seen
crashes_within v e kept m w =
    let s = setup_of w.group v in
    let journal = journal_after kept (place_of w v).journal (turned s m e).stored in
    crashes (passes_to (reach s m) (with_place v (stopped journal) w))

-- v begins again
abbrev pub restarts : ℕ → Seen → Seen
restarts v w = with_place v (started (place_of w v).journal) w

-- v does something, where it is up
abbrev pub where_up : Option MemberState → (MemberState → Seen → Seen) → Seen → Seen
where_up (Some m) does w = does m w
where_up None does w = w

abbrev pub acts : ℕ → (MemberState → Seen → Seen) → Seen → Seen
acts v does w = where_up (place_of w v).member does w

-- the aggregator makes a turn at an event that came to this address
abbrev pub aggregates : Addr → Event → Seen → Seen
aggregates me e w =
    let before : AggregatorState = record { me = me; members = w.group.members; tally = w.tally } in
    sends (sent before e) (record w { tally = (aggregator_turned before e).tally })

-- a datagram comes to whom it was sent to
abbrev pub comes_to : Receiver → Datagram → Seen → Seen
comes_to (Member v) d w = acts v (turns v (event.Datagram d)) w
comes_to Aggregator d w = aggregates d.to (event.Datagram d) w
comes_to Outside d w = w

-- where it was sent
abbrev pub delivers : Option Datagram → Seen → Seen
delivers (Some d) w = comes_to (receiver_at w.group d.to) d w
delivers None w = w

-- the aggregator begins anew
abbrev pub forgets : Seen → Seen
forgets w = record w { tally = no_tally (length w.group.members) }

-- the packet with this number, where one is named
abbrev pub packet_at : Seen → Option ℕ → Option Datagram
packet_at w (Some number) = slice_get w.datagrams number
packet_at w None = None

-- what an event comes to
abbrev pub happens : WorldEvent → Seen → Seen
happens (ClientSend kind body) w = asks kind body w
happens (Deliver packet) w = delivers (slice_get w.datagrams packet) w
happens (Tick v) w = acts v (turns v event.Tick) w
happens (Quiet v) w = acts v (turns v event.Quiet) w
happens (Crash v) w = acts v (crashes_between v) w
happens (Restart v) w = restarts v w
happens (CrashInTurn v packet kept) w = acts v (crashes_within v (event_of (packet_at w packet)) kept) w
happens Forget w = forgets w

-- one event more
abbrev pub counts_event : Seen → Seen
counts_event w = record w { events = capped (w.events + 1) }

-- what is seen after an event
unfoldable pub seen_after : Seen → WorldEvent → Seen
seen_after w e = counts_event (happens e w)
