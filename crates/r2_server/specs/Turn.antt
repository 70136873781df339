-- A turn of a plain server: what it becomes by an event, and what it sends.
use Rattle.std.specs.Prelude.{ℕ, ◌+◌, ◌==◌, ◌&&◌, ◌||◌, Bool, false, nat_le, is_some, if◌then◌else◌, List, [], ◌∷◌, ◌++◌, drop, Option, Some, None, Result, Ok, Err}
use Rattle.std.specs.List.{flat_map}
use Rattle.r2_base.specs.declared.addr.Addr.{Addr}
use Rattle.r2_base.specs.declared.datagram.Datagram.{Datagram}
use Rattle.r2_base.specs.Names.{same_addr}
use Rattle.r2_base.specs.declared.entry.Kind.TheVariants.{Write}
use Rattle.r2_base.specs.declared.event.Event.{Event}
use Rattle.r2_base.specs.declared.event.Event.TheVariants.{Datagram as DatagramEvent, Tick, Quiet}
use Rattle.r2_header.specs.declared.header.Header.{Header}
use Rattle.r2_header.specs.declared.header_fault.HeaderFault.{HeaderFault}
use Rattle.r2_header.specs.declared.packet.Packet.{Packet}
use Rattle.r2_header.specs.declared.packet.Packet.TheVariants.{Req0, ReqN}
use Rattle.r2_header.specs.Policy.{fixed, jbsq}
use Rattle.r2_header.specs.Reading.{header_at}
use Rattle.r2_frag.specs.declared.added.Added.{Added}
use Rattle.r2_frag.specs.declared.added.Added.TheVariants.{More, Whole, Repeat, Bad, Dropped}
use Rattle.r2_frag.specs.declared.key.Key.{Key}
use Rattle.r2_frag.specs.declared.kept.KeptReply.{KeptReply}
use Rattle.r2_frag.specs.Assembly.{added}
use Rattle.r2_frag.specs.Kept.{kept_with, newest}
use Rattle.r2_frag.specs.Keys.{key_at}
use Rattle.r2_frag.specs.Replies.{reply_parts}
use Rattle.hc_store.specs.Replies.{reply_of}
use Rattle.hc_store.specs.Service.{Served, serve}
use Rattle.hc_store.specs.State.{after_write}
use Rattle.r2_server.specs.Notices.{feedback, feedback_for, ready}
use Rattle.r2_server.specs.State.{ServerState}
use Rattle.r2_server.specs.Timers.{due, given_up, not_due, started_for, stopped_for}

-- a server after an event, and what it sends
pub record Turned : Type 0 where
  pub server : ServerState
  pub sends : List Datagram

-- nothing happens
abbrev pub unchanged : ServerState → Turned
unchanged s = record { server = s; sends = [] }

-- a reply that is kept goes out again, under the policy kept with it
unfoldable pub repeated : ServerState → Key → KeptReply → Turned
repeated s key reply =
    record { server = s; sends = reply_parts s.me key.rid reply.policy reply.payload ++ feedback_for s.me s.router key }

-- a request that was served gets its reply, which is kept
unfoldable pub replied : ServerState → Key → Served → Turned
replied s key served =
    let payload = reply_of (s.service.writes + 1) served in
    record {
      server = record s {
        service = after_write s.service served.contents;
        kept = kept_with s.kept (record { rid = key.rid; policy = key.policy; payload = payload });
      };
      sends = reply_parts s.me key.rid key.policy payload ++ feedback_for s.me s.router key;
    }

-- a whole request is served as a write, unless a reply to it is kept
abbrev pub answered : ServerState → Key → List ℕ → Option KeptReply → Turned
answered s key body None = replied s key (serve s.service.contents Write body)
answered s key body (Some reply) = repeated s key reply

-- after a first part the client is called on to send the others
abbrev pub calls : Addr → Packet → Key → List Datagram
calls me Req0 key = ready me key ∷ []
calls me _ key = []

-- what comes of a part, by what adding it came to
abbrev pub by_answer : ServerState → Packet → Key → Added → Turned
by_answer s type key More = record { server = record s { timers = started_for key s.ticks s.timers }; sends = calls s.me type key }
by_answer s type key Repeat = record { server = s; sends = calls s.me type key }
by_answer s type key (Dropped oldest) =
    record {
      server = record s { timers = started_for key s.ticks (stopped_for oldest s.timers) };
      sends = calls s.me type key ++ feedback_for s.me s.router oldest;
    }
by_answer s type key (Whole body) = answered (record s { timers = stopped_for key s.timers }) key body (newest key.rid s.kept)
by_answer s type key (Bad why) = unchanged s

-- a part of a request is added to what came of it
unfoldable pub part_added : ServerState → Header → List ℕ → Key → Turned
part_added s h payload key =
    let r = added s.unfinished key h payload in
    by_answer (record s { unfinished = r.1 }) h.packet key r.0

-- the first part of a request is added, unless a reply to it is kept
abbrev pub first_part : ServerState → Header → List ℕ → Key → Option KeptReply → Turned
first_part s h payload key None = part_added s h payload key
first_part s h payload key (Some reply) = repeated s key reply

-- a part of a request, by its type
abbrev pub part_taken : ServerState → Header → List ℕ → Key → Packet → Turned
part_taken s h payload key Req0 = first_part s h payload key (newest key.rid s.kept)
part_taken s h payload key _ = part_added s h payload key

-- whether an address is the router's
abbrev pub is_router : Option Addr → Addr → Bool
is_router (Some router) from = same_addr from router
is_router None from = false

-- whether a server takes a packet: first parts under FIXED from anybody and under JBSQ by the router, with the client's
-- address, and later parts under both
abbrev pub is_taken : Option Addr → Addr → Header → Packet → Bool
is_taken router from h Req0 = (h.policy == fixed) || ((h.policy == jbsq) && is_some h.client && is_router router from)
is_taken router from h ReqN = nat_le h.policy jbsq
is_taken router from h _ = false

-- a packet from this address, with its key where it has one
abbrev pub received_part : ServerState → Addr → Header → List ℕ → Option Key → Turned
received_part s from h payload (Some key) =
    if is_taken s.router from h h.packet then part_taken s h payload key h.packet else unchanged s
received_part s from h payload None = unchanged s

-- a datagram whose bytes read so
abbrev pub received_as : ServerState → Datagram → Result (Header × ℕ) HeaderFault → Turned
received_as s d (Ok (h, size)) = received_part s d.from h (drop size d.bytes) (key_at d.from d.to h)
received_as s d (Err fault) = unchanged s

-- a datagram comes
unfoldable pub received : ServerState → Datagram → Turned
received s d = received_as s d (header_at d.bytes)

-- a tick more: requests that have been unfinished for too long are given up, and the router is told of each
unfoldable pub ticked : ServerState → Turned
ticked s =
    let late = due (s.ticks + 1) s.timers in
    record {
      server = record s {
        ticks = s.ticks + 1;
        timers = not_due (s.ticks + 1) s.timers;
        unfinished = given_up late s.unfinished;
      };
      sends = flat_map (λ t. feedback s.me s.router t.rid) late;
    }

-- by what happens
abbrev pub turned_by : ServerState → Event → Turned
turned_by s (DatagramEvent d) = received s d
turned_by s Tick = ticked s
turned_by s Quiet = unchanged s

-- one turn, which is counted
unfoldable pub turned : ServerState → Event → Turned
turned s event =
    let t = turned_by s event in
    record { server = record t.server { turns = s.turns + 1 }; sends = t.sends }

-- the turns of a list of events, one after another
unfoldable pub turned_all : ServerState → List Event → Turned
turned_all s [] = unchanged s
turned_all s (event ∷ more) =
    let first = turned s event in
    let rest = turned_all first.server more in
    record { server = rest.server; sends = first.sends ++ rest.sends }
