-- Runs that exist: the events of a group are not empty.
use Rattle.std.specs.Prelude.{◌≡◌, ℕ, true, false, List, [], ◌∷◌, slice_get, Some, None, option_map}
use Rattle.r2_base.specs.declared.addr.Addr.{Addr}
use Rattle.r2_base.specs.declared.datagram.Datagram.{Datagram}
use Rattle.r2_base.specs.declared.entry.Kind.TheVariants.{Read}
use Rattle.hc_log.specs.declared.record.Record.{Record}
use Rattle.hc_log.specs.declared.stored.Stored.{Stored}
use Rattle.hc_log.specs.Log.{blank_of}
use Rattle.hc_message.specs.declared.msg.Msg.{Msg}
use Rattle.hc_message.specs.declared.msg.Msg.TheVariants.{Order, Ack, AggCommit}
use Rattle.hc_packet.specs.Packet.{message_datagram}
use Rattle.hc_member.specs.declared.role.Role.{Role}
use Rattle.hc_member.specs.declared.role.Role.TheVariants.{Leader}
use Rattle.hc_member.specs.Member.{Member as MemberState}
use Rattle.hc_member.specs.Worked.{address, client, get_a, ones, rid}
use Rattle.hc_rules.specs.Message.{Reply, Report, Request}
use Rattle.hc_run.specs.Group.{Group}
use Rattle.hc_run.specs.State.{Passed, journal_at, member_at, replica_at, stopped}
use Rattle.hc_run.specs.Events.{GroupEvent, ClientSend, Deliver, Tick, Quiet, CrashInTurn, Restart, End}
use Rattle.hc_run.specs.Runs.{IsRun, run}
use Rattle.hc_run.specs.ReplyParts.{IsReplyPart, ReadsAsReply}

-- a group of one member, which stands for election at its first tick
abbrev pub alone : Group
alone = record { members = address 1 ∷ []; aggregator = None; bounds = 64 ∷ []; election = 1 }

-- a client asks for the value of the key a
abbrev pub asks : Request
asks = record { rid = rid 7; kind = Read; body = get_a }

-- the member leads, the request comes, and its reply goes out in the next turn
abbrev pub alone_events : List GroupEvent
alone_events = Tick 0 ∷ ClientSend asks ∷ Deliver 0 ∷ Quiet 0 ∷ []

-- the packet of the request
abbrev pub asked_packet : Datagram
asked_packet =
    record {
      from = client;
      to = address 1;
      bytes = 0x52 ∷ 0x08 ∷ 0x03 ∷ 0xC0 ∷ 0x00 ∷ 0x07 ∷ 0x00 ∷ 0x01 ∷ get_a;
    }

-- the reply of an entry at an index below 256, where the key isn't there
abbrev pub absent_payload : ℕ → List ℕ
absent_payload index = 0 ∷ 0 ∷ 0 ∷ 0 ∷ 0 ∷ 0 ∷ 0 ∷ index ∷ 1 ∷ []

-- and its packet
abbrev pub answered_packet : ℕ → Datagram
answered_packet index =
    record {
      from = address 1;
      to = client;
      bytes = 0x52 ∷ 0x08 ∷ 0x13 ∷ 0xC0 ∷ 0x00 ∷ 0x07 ∷ 0x00 ∷ 0x01 ∷ absent_payload index;
    }

abbrev pub absent_reply : ℕ → Reply
absent_reply index = record { request = rid 7; index = index; payload = absent_payload index; place = 1 }

-- the first member applied an entry
abbrev pub passed : ℕ → Stored → Passed
passed index entry = record { member = 0; index = index; stored = entry }

-- the first member, which leads this term, has applied so much
abbrev pub applied : ℕ → ℕ → Report
applied term index = record { leader = 0; term = term; member = 0; index = index }

-- the request's entry, of a term
abbrev pub asked_entry : ℕ → Stored
asked_entry term =
    record { entry = record { term = term; kind = Read; rid = rid 7; replier = 0 }; body = get_a }

-- a record of the first member, which voted for itself
abbrev pub kept : ℕ → ℕ → List Stored → Record
kept term keep entries = record { term = term; vote = Some 0; keep = keep; entries = entries }

-- the only member of a group answers a request: what it sends reads as a part of a reply, and is one of the reply, and the request doesn't
-- read so
pub record IsAnswered : Type 0 where
  pub possible : IsRun alone alone_events
  pub datagrams : (run alone alone_events).datagrams ≡ asked_packet ∷ answered_packet 2 ∷ []
  pub replied : (run alone alone_events).replied ≡ absent_reply 2 ∷ []
  pub passed : (run alone alone_events).passed ≡ passed 2 (asked_entry 1) ∷ passed 1 (blank_of 1) ∷ []
  pub reports : (run alone alone_events).reports ≡ applied 1 2 ∷ applied 1 1 ∷ []
  pub journal : journal_at (run alone alone_events) 0 ≡ kept 1 0 (blank_of 1 ∷ []) ∷ kept 1 1 (asked_entry 1 ∷ []) ∷ []
  pub reads : ReadsAsReply (answered_packet 2)
  pub part : IsReplyPart alone (run alone alone_events).replied (answered_packet 2)
  pub silent : ReadsAsReply asked_packet → ⊥

-- the member stops in the turn in which it orders the request, and its record is lost: it begins again without the entry, leads the
-- next term, and answers when the request comes again
abbrev pub lost_events : List GroupEvent
lost_events =
    Tick 0 ∷ ClientSend asks ∷ CrashInTurn 0 (Some 0) false ∷ Restart 0 ∷ Tick 0 ∷ Deliver 0 ∷ Quiet 0 ∷ []

pub record IsLost : Type 0 where
  pub possible : IsRun alone lost_events
  pub datagrams : (run alone lost_events).datagrams ≡ asked_packet ∷ answered_packet 3 ∷ []
  pub replied : (run alone lost_events).replied ≡ absent_reply 3 ∷ []
  pub passed : (run alone lost_events).passed
      ≡ passed 3 (asked_entry 2) ∷ passed 2 (blank_of 2) ∷ passed 1 (blank_of 1) ∷ passed 1 (blank_of 1) ∷ []
  pub reports : (run alone lost_events).reports ≡ applied 2 3 ∷ applied 2 2 ∷ applied 1 1 ∷ []
  pub journal : journal_at (run alone lost_events) 0
      ≡ kept 1 0 (blank_of 1 ∷ []) ∷ kept 2 1 (blank_of 2 ∷ []) ∷ kept 2 2 (asked_entry 2 ∷ []) ∷ []
  pub crashes : (run alone lost_events).crashes ≡ 1

-- the member stops in that turn, and its record is kept: it begins again with the entry, and answers in the next term though the request
-- doesn't come again
abbrev pub kept_events : List GroupEvent
kept_events = Tick 0 ∷ ClientSend asks ∷ CrashInTurn 0 (Some 0) true ∷ Restart 0 ∷ Tick 0 ∷ Quiet 0 ∷ []

pub record IsKept : Type 0 where
  pub possible : IsRun alone kept_events
  pub datagrams : (run alone kept_events).datagrams ≡ asked_packet ∷ answered_packet 2 ∷ []
  pub replied : (run alone kept_events).replied ≡ absent_reply 2 ∷ []
  pub passed : (run alone kept_events).passed
      ≡ passed 3 (blank_of 2) ∷ passed 2 (asked_entry 1) ∷ passed 1 (blank_of 1) ∷ passed 1 (blank_of 1) ∷ []
  pub reports : (run alone kept_events).reports ≡ applied 2 3 ∷ applied 1 1 ∷ []
  pub journal : journal_at (run alone kept_events) 0
      ≡ kept 1 0 (blank_of 1 ∷ []) ∷ kept 1 1 (asked_entry 1 ∷ []) ∷ kept 2 2 (blank_of 2 ∷ []) ∷ []
  pub crashes : (run alone kept_events).crashes ≡ 1

-- the member has ordered the request when it comes to the end of its link: it applies what is pending, answers, and stops with its
-- journal, which is no crash
abbrev pub ended_events : List GroupEvent
ended_events = Tick 0 ∷ ClientSend asks ∷ Deliver 0 ∷ End 0 1 ∷ []

pub record IsEnded : Type 0 where
  pub possible : IsRun alone ended_events
  pub datagrams : (run alone ended_events).datagrams ≡ asked_packet ∷ answered_packet 2 ∷ []
  pub replied : (run alone ended_events).replied ≡ absent_reply 2 ∷ []
  pub passed : (run alone ended_events).passed ≡ passed 2 (asked_entry 1) ∷ passed 1 (blank_of 1) ∷ []
  pub reports : (run alone ended_events).reports ≡ applied 1 2 ∷ applied 1 1 ∷ []
  pub place : replica_at (run alone ended_events) 0 ≡ stopped (kept 1 0 (blank_of 1 ∷ []) ∷ kept 1 1 (asked_entry 1 ∷ []) ∷ [])
  pub crashes : (run alone ended_events).crashes ≡ 0

-- a group of three members
abbrev pub three : Group
three = record { members = address 1 ∷ address 2 ∷ address 3 ∷ []; aggregator = None; bounds = ones; election = 1 }

-- the first member asks for votes and gets the second's, sends it the blank entry of its term, counts its acknowledgement, and
-- applies the entry. Then the second member has no word from it for so long that it asks for votes, and gets the third's
abbrev pub led_events : List GroupEvent
led_events =
    Tick 0 ∷ Deliver 0 ∷ Deliver 2 ∷ Deliver 3 ∷ Deliver 5 ∷ Quiet 0 ∷ Tick 1 ∷ Tick 1 ∷ Tick 1 ∷ Tick 1 ∷ Deliver 7 ∷ Deliver 8 ∷ []

-- what is seen of a member: its term, its role and its log
abbrev pub seen : MemberState → ℕ × Role × List Stored
seen m = (m.term, m.role, m.log)

-- the second leader's log begins with what was committed and applied under the first
pub record IsLedAgain : Type 0 where
  pub possible : IsRun three led_events
  pub passed : (run three led_events).passed ≡ passed 1 (blank_of 1) ∷ []
  pub leads : option_map seen (member_at (run three led_events) 1) ≡ Some (2, Leader, blank_of 1 ∷ blank_of 2 ∷ [])

-- the same members with an aggregator
abbrev pub aggregator : Addr
aggregator = record { ip = 0x0A000064; port = 9100 }

abbrev pub aggregated : Group
aggregated = record three { aggregator = Some aggregator }

-- the first two members have the request when the first is elected. Its Order goes to the aggregator, which hands it to the others; the
-- second acknowledges it to the aggregator, which tells the leader that it is committed; and the leader answers in the next turn
abbrev pub aggregated_events : List GroupEvent
aggregated_events =
    ClientSend asks
    ∷ Deliver 0
    ∷ Deliver 1
    ∷ Tick 0
    ∷ Deliver 3
    ∷ Deliver 5
    ∷ Deliver 6
    ∷ Deliver 7
    ∷ Deliver 9
    ∷ Deliver 10
    ∷ Quiet 0
    ∷ []

-- the leader's Order, which is the same when it is handed on
abbrev pub aggregated_order : Msg
aggregated_order = Order 1 0 0 0 1 0 true ((blank_of 1).entry ∷ (asked_entry 1).entry ∷ [])

-- the datagram with this number is a message from one address to another
abbrev pub HasTold : ℕ → Addr → Addr → Msg → Type 0
HasTold number from to message = slice_get (run aggregated aggregated_events).datagrams number ≡ Some (message_datagram from to message)

pub record IsAggregated : Type 0 where
  pub possible : IsRun aggregated aggregated_events
  pub ordered : HasTold 6 (address 1) aggregator aggregated_order
  pub handed_on : HasTold 7 aggregator (address 2) aggregated_order
  pub acknowledged : HasTold 9 (address 2) aggregator (Ack 1 1 2 0)
  pub committed : HasTold 10 aggregator (address 1) (AggCommit 1 2)
  pub answered : slice_get (run aggregated aggregated_events).datagrams 13 ≡ Some (answered_packet 2)
  pub replied : (run aggregated aggregated_events).replied ≡ absent_reply 2 ∷ []
  pub passed : (run aggregated aggregated_events).passed ≡ passed 2 (asked_entry 1) ∷ passed 1 (blank_of 1) ∷ []
  pub counts : (run aggregated aggregated_events).tally
      ≡ record { term = 1; leader = 0; term_start = 1; reached = 2 ∷ 2 ∷ 0 ∷ []; committed = 2 }

-- all of these
pub record WorkedRuns : Type 0 where
  pub answered : IsAnswered
  pub lost : IsLost
  pub kept : IsKept
  pub ended : IsEnded
  pub led_again : IsLedAgain
  pub aggregated : IsAggregated
