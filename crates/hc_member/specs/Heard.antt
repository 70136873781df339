-- What an event says to a replica, and what it leaves of the messages that aren't whole yet.
use Rattle.std.specs.Prelude.{ℕ, ◌==◌, if◌then◌else◌, List, drop, Option, Some, None, Result, Ok, Err}
use Rattle.r2_base.specs.declared.addr.Addr.{Addr}
use Rattle.r2_base.specs.declared.rid.Rid.{Rid}
use Rattle.r2_base.specs.declared.datagram.Datagram.{Datagram}
use Rattle.r2_base.specs.declared.event.Event.{Event}
use Rattle.r2_base.specs.declared.event.Event.TheVariants as event
use Rattle.r2_base.specs.declared.entry.Kind.{Kind}
use Rattle.r2_base.specs.declared.entry.Kind.TheVariants.{Blank, Write, Read}
use Rattle.r2_header.specs.declared.header.Header.{Header}
use Rattle.r2_header.specs.declared.header_fault.HeaderFault.{HeaderFault}
use Rattle.r2_header.specs.declared.packet.Packet.{Packet}
use Rattle.r2_header.specs.declared.packet.Packet.TheVariants.{Ordering}
use Rattle.r2_header.specs.Policy.{fixed, replicated, replicated_read}
use Rattle.r2_header.specs.Reading.{header_at}
use Rattle.r2_frag.specs.declared.added.Added.{Added}
use Rattle.r2_frag.specs.declared.added.Added.TheVariants.{Whole as WholeBody}
use Rattle.r2_frag.specs.declared.class.Class.{Class}
use Rattle.r2_frag.specs.declared.class.Class.TheVariants as class
use Rattle.r2_frag.specs.declared.key.Key.{Key}
use Rattle.r2_frag.specs.declared.unfinished.Unfinished.{Unfinished}
use Rattle.r2_frag.specs.Keys.{key_at}
use Rattle.r2_frag.specs.Assembly.{added}
use Rattle.hc_pool.specs.Pool.{MayWait}
use Rattle.hc_message.specs.declared.msg.Msg.{Msg}
use Rattle.hc_message.specs.declared.msg.Msg.TheVariants.{RecoverAsk, RecoverBody}
use Rattle.hc_message.specs.declared.msg_fault.MsgFault.{MsgFault}
use Rattle.hc_message.specs.Message.{IsValid}
use Rattle.hc_message.specs.Reading.{decode_message}
use Rattle.hc_member.specs.declared.heard.Heard.{Heard}
use Rattle.hc_member.specs.declared.heard.Heard.TheVariants.{Nothing, Whole, Told, Recovered, Time}
use Rattle.hc_member.specs.Member.{Member}

-- the policy under which the requests of a kind come and their replies go; a blank entry has none, and no reply
abbrev pub policy_of : Kind → ℕ
policy_of Blank = fixed
policy_of Write = replicated
policy_of Read = replicated_read

-- the kind of the requests that come under a policy
abbrev pub kind_under : ℕ → Option Kind
kind_under policy = if policy == replicated then Some Write else if policy == replicated_read then Some Read else None

-- what a replica received, and the messages that are unfinished then
pub record Received : Type 0 where
  pub said : Heard
  pub unfinished : List Unfinished

-- nothing was heard
abbrev pub silence : List Unfinished → Received
silence unfinished = record { said = Nothing; unfinished = unfinished }

-- a request that is whole now, if it is
abbrev pub request_said : Kind → Rid → Added → Heard
request_said kind rid (WholeBody body) = Whole (record { rid = rid; kind = kind; body = body })
request_said kind rid _ = Nothing

-- a part of a request, where its policy is one of the group's
abbrev pub receive_request : List Unfinished → Header → List ℕ → Key → Option Kind → Received
receive_request unfinished h payload key (Some kind) =
    record {
      said = request_said kind key.rid (added unfinished key h payload).0;
      unfinished = (added unfinished key h payload).1;
    }
receive_request unfinished h payload key None = silence unfinished

-- a message about the body of a request: it is asked for, or given
abbrev pub recovery_said : Addr → Rid → Result Msg MsgFault → Heard
recovery_said from rid (Ok (RecoverAsk member)) = Recovered from rid (RecoverAsk member)
recovery_said from rid (Ok (RecoverBody kind body)) = Recovered from rid (RecoverBody kind body)
recovery_said from rid _ = Nothing

-- such a message, where it is whole now
abbrev pub recovery_heard : Addr → Rid → Added → Heard
recovery_heard from rid (WholeBody bytes) = recovery_said from rid (decode_message bytes)
recovery_heard from rid _ = Nothing

-- a part of a message, by its class: replies aren't for a replica
abbrev pub receive_part : List Unfinished → Addr → Header → List ℕ → Key → Class → Received
receive_part unfinished from h payload key class.Request = receive_request unfinished h payload key (kind_under key.policy)
receive_part unfinished from h payload key class.Reply = silence unfinished
receive_part unfinished from h payload key class.Recover =
    record {
      said = recovery_heard from key.rid (added unfinished key h payload).0;
      unfinished = (added unfinished key h payload).1;
    }

-- a message that travels in one datagram; those about a body don't
abbrev pub message_said : Addr → Result Msg MsgFault → Heard
message_said from (Ok (RecoverAsk member)) = Nothing
message_said from (Ok (RecoverBody kind body)) = Nothing
message_said from (Ok message) = Told from message
message_said from (Err fault) = Nothing

-- a packet that is no part of several: only the messages of the replicas are for them
abbrev pub single_said : Addr → List ℕ → Packet → Heard
single_said from payload Ordering = message_said from (decode_message payload)
single_said from payload _ = Nothing

-- a packet, which has a key where it may be a part of several
abbrev pub receive_packet : List Unfinished → Addr → Header → List ℕ → Option Key → Received
receive_packet unfinished from h payload (Some key) = receive_part unfinished from h payload key key.class
receive_packet unfinished from h payload None =
    record { said = single_said from payload h.packet; unfinished = unfinished }

-- a datagram whose bytes read so
abbrev pub receive_read : List Unfinished → Datagram → Result (Header × ℕ) HeaderFault → Received
receive_read unfinished d (Ok (h, size)) = receive_packet unfinished d.from h (drop size d.bytes) (key_at d.from d.to h)
receive_read unfinished d (Err fault) = silence unfinished

-- what an event says to a replica with these unfinished messages
unfoldable pub receive : List Unfinished → Event → Received
receive unfinished (event.Datagram d) = receive_read unfinished d (header_at d.bytes)
receive unfinished event.Tick = record { said = Time; unfinished = unfinished }
receive unfinished event.Quiet = silence unfinished

-- a member that heard an event: the parts that came with it are kept
unfoldable pub with_received : Member → Event → Member
with_received m event = record m { unfinished = (receive m.unfinished event).unfinished }

-- what is heard is as it may be: a request may wait to be ordered, and a message is valid
abbrev pub IsSayable : Heard → Type 0
IsSayable (Whole r) = MayWait r
IsSayable (Told from message) = IsValid message
IsSayable (Recovered from rid message) = IsValid message
IsSayable Nothing = Unit {0}
IsSayable Time = Unit {0}
