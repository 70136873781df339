-- What is heard of a datagram is as it may be, and what is kept of it may be heard later.
use Rattle.std.proofs.Common.{◌≡◌, ◌≤◌, ℕ, List, drop, length, Option, None, Some, refl, subst}
use Rattle.std.specs.Prelude.{All, Result, Ok, Err, Bool, true, false, ◌==◌, if◌then◌else◌}
use Rattle.r2_base.specs.Limits.{most_body}
use Rattle.r2_base.specs.Numbers.{AreBytes}
use Rattle.r2_base.specs.declared.addr.Addr.{Addr}
use Rattle.r2_base.specs.declared.datagram.Datagram.{Datagram}
use Rattle.r2_base.specs.declared.event.Event.{Event}
use Rattle.r2_base.specs.declared.event.Event.TheVariants.{Datagram as DatagramEvent, Tick, Quiet}
use Rattle.r2_base.specs.declared.entry.Kind.{Kind}
use Rattle.r2_base.specs.declared.entry.Kind.TheVariants.{Write, Read}
use Rattle.r2_base.specs.Entry.{is_request}
use Rattle.r2_base.specs.declared.rid.Rid.{Rid}
use Rattle.r2_header.specs.declared.header.Header.{Header}
use Rattle.r2_header.specs.declared.header_fault.HeaderFault.{HeaderFault}
use Rattle.r2_header.specs.declared.packet.Packet.{Packet}
use Rattle.r2_header.specs.declared.packet.Packet.TheVariants.{Req0, Reply, ReqRdy, ReqN, Feedback, Reject, Ordering, Recover}
use Rattle.r2_header.specs.Header.{IsValid as IsValidHeader}
use Rattle.r2_header.specs.Reading.{header_at}
use Rattle.r2_header.proofs.Begun.{read_is_valid}
use Rattle.r2_frag.specs.declared.added.Added.{Added}
use Rattle.r2_frag.specs.declared.added.Added.TheVariants.{More, Whole as WholeBody, Repeat, Bad, Dropped}
use Rattle.r2_frag.specs.declared.class.Class.{Class}
use Rattle.r2_frag.specs.declared.class.Class.TheVariants as class
use Rattle.r2_frag.specs.declared.key.Key.{Key}
use Rattle.r2_frag.specs.declared.unfinished.Unfinished.{Unfinished}
use Rattle.r2_frag.specs.Keys.{class_of, key_at}
use Rattle.r2_frag.specs.Assembly.{added}
use Rattle.r2_frag.specs.Sizes.{IsShort, most_bytes}
use Rattle.r2_frag.proofs.Sizes.{key_at-class, whole_is_short, stays_short}
use Rattle.hc_message.specs.declared.msg.Msg.{Msg}
use Rattle.hc_message.specs.declared.msg.Msg.TheVariants.{VoteReq, Vote, Order, Ack, Nack, AggCommit, RecoverAsk, RecoverBody}
use Rattle.hc_message.specs.declared.msg_fault.MsgFault.{MsgFault}
use Rattle.hc_message.specs.Message.{IsValid}
use Rattle.hc_message.specs.Reading.{decode_message}
use Rattle.hc_message.proofs.Takes.{AreBytes-drop}
use Rattle.hc_message.proofs.Taken.{what_is_read_is_spelled}
use Rattle.hc_member.specs.Heard.{Received, IsSayable, kind_under, message_said, recovery_heard, recovery_said, request_said, receive_request, receive_part, receive_packet, receive_read, receive, single_said}
use Rattle.hc_member.specs.Laws.{HasBytes}
use Rattle.hc_member.proofs.Recoveries.{IsValidRecovery, recovery_is_valid}

-- what may be said, and what may be heard later
abbrev IsGoodReceived : Received → Type 0
IsGoodReceived x = IsSayable x.said × All IsShort x.unfinished

said_short : (kind : Kind) (rid : Rid) (a : Added) → is_request kind ≡ true → ((body : List ℕ) → a ≡ WholeBody body → length body ≤ most_body)
    → IsSayable (request_said kind rid a)
said_short kind rid (WholeBody body) asks h = record { asks = asks; body = h body refl }
said_short kind rid More asks h = tt
said_short kind rid Repeat asks h = tt
said_short kind rid (Bad why) asks h = tt
said_short kind rid (Dropped key) asks h = tt

-- a message about a body
recovery_good : (from : Addr) (rid : Rid) (r : Result Msg MsgFault) → ((m : Msg) → r ≡ Ok m → IsValidRecovery m) → IsSayable (recovery_said from rid r)
recovery_good from rid (Ok (VoteReq a b c d)) valid = tt
recovery_good from rid (Ok (Vote a b c)) valid = tt
recovery_good from rid (Ok (Order a b c d e f g h)) valid = tt
recovery_good from rid (Ok (Ack a b c d)) valid = tt
recovery_good from rid (Ok (Nack a b c)) valid = tt
recovery_good from rid (Ok (AggCommit a b)) valid = tt
recovery_good from rid (Ok (RecoverAsk member)) valid = valid (RecoverAsk member) refl
recovery_good from rid (Ok (RecoverBody kind body)) valid = valid (RecoverBody kind body) refl
recovery_good from rid (Err fault) valid = tt

recovered_good : (from : Addr) (rid : Rid) (a : Added) → IsSayable (recovery_heard from rid a)
recovered_good from rid (WholeBody bytes) = recovery_good from rid (decode_message bytes) (λ m e. recovery_is_valid bytes m e)
recovered_good from rid More = tt
recovered_good from rid Repeat = tt
recovered_good from rid (Bad why) = tt
recovered_good from rid (Dropped key) = tt

-- a message in one datagram
message_good : (from : Addr) (r : Result Msg MsgFault) → ((m : Msg) → r ≡ Ok m → IsValid m) → IsSayable (message_said from r)
message_good from (Ok (VoteReq a b c d)) valid = valid (VoteReq a b c d) refl
message_good from (Ok (Vote a b c)) valid = valid (Vote a b c) refl
message_good from (Ok (Order a b c d e f g h)) valid = valid (Order a b c d e f g h) refl
message_good from (Ok (Ack a b c d)) valid = valid (Ack a b c d) refl
message_good from (Ok (Nack a b c)) valid = valid (Nack a b c) refl
message_good from (Ok (AggCommit a b)) valid = valid (AggCommit a b) refl
message_good from (Ok (RecoverAsk member)) valid = tt
message_good from (Ok (RecoverBody kind body)) valid = tt
message_good from (Err fault) valid = tt

read_valid : (bytes : List ℕ) (m : Msg) → AreBytes bytes → decode_message bytes ≡ Ok m → IsValid m
read_valid bytes m are e = let read = what_is_read_is_spelled m bytes are e in read.spells.valid

single_good : (from : Addr) (payload : List ℕ) (packet : Packet) → AreBytes payload → IsSayable (single_said from payload packet)
single_good from payload Ordering are = message_good from (decode_message payload) (λ m e. read_valid payload m are e)
single_good from payload Req0 are = tt
single_good from payload Reply are = tt
single_good from payload ReqRdy are = tt
single_good from payload ReqN are = tt
single_good from payload Feedback are = tt
single_good from payload Reject are = tt
single_good from payload Recover are = tt

-- the requests of a group are to write or to read
asks_by : (writes reads : Bool) (kind : Kind) → (if writes then Some Write else if reads then Some Read else None) ≡ Some kind → is_request kind ≡ true
asks_by true reads kind e = let same : Write ≡ kind = cc in subst (λ (k : Kind). is_request k ≡ true) same refl
asks_by false true kind e = let same : Read ≡ kind = cc in subst (λ (k : Kind). is_request k ≡ true) same refl
asks_by false false kind e = cc

kind_under-asks : (policy : ℕ) (kind : Kind) → kind_under policy ≡ Some kind → is_request kind ≡ true
kind_under-asks policy kind e = asks_by (policy == 2) (policy == 3) kind e

module _ (unfinished : List Unfinished) (from : Addr) (h : Header) (payload : List ℕ) (all : All IsShort unfinished) (valid : IsValidHeader h) where
  request_good : (key : Key) (kind : Option Kind) → class_of h.packet ≡ Some key.class → key.class ≡ class.Request
      → ((k : Kind) → kind ≡ Some k → is_request k ≡ true) → IsGoodReceived (receive_request unfinished h payload key kind)
  request_good key None e is asks = (tt, all)
  request_good key (Some kind) e is asks = (
    said_short kind key.rid (added unfinished key h payload).0 (asks kind refl)
        (λ body whole. subst (λ (c : Class). length body ≤ most_bytes c) is (whole_is_short unfinished key h payload body all valid e whole)),
    stays_short unfinished key h payload all valid e,
  )

  class_good : (key : Key) (c : Class) → class_of h.packet ≡ Some key.class → key.class ≡ c → IsGoodReceived (receive_part unfinished from h payload key c)
  class_good key class.Request e is = request_good key (kind_under key.policy) e is (kind_under-asks key.policy)
  class_good key class.Reply e is = (tt, all)
  class_good key class.Recover e is = (recovered_good from key.rid (added unfinished key h payload).0, stays_short unfinished key h payload all valid e)

  packet_good : (key : Option Key) → AreBytes payload → ((k : Key) → key ≡ Some k → class_of h.packet ≡ Some k.class)
      → IsGoodReceived (receive_packet unfinished from h payload key)
  packet_good None are e = (single_good from payload h.packet are, all)
  packet_good (Some key) are e = class_good key key.class (e key refl) refl

read_good : (unfinished : List Unfinished) (d : Datagram) (r : Result (Header × ℕ) HeaderFault) → AreBytes d.bytes → All IsShort unfinished → header_at d.bytes ≡ r
    → IsGoodReceived (receive_read unfinished d r)
read_good unfinished d (Err fault) are all e = (tt, all)
read_good unfinished d (Ok (h, size)) are all e =
    packet_good unfinished d.from h (drop size d.bytes) all (read_is_valid h size d.bytes e) (key_at d.from d.to h) (AreBytes-drop size d.bytes are)
    (λ k f. key_at-class d.from d.to h k f)

-- what an event says is as it may be, and what is left unfinished may be heard later
pub received_good : (unfinished : List Unfinished) (event : Event) → HasBytes event → All IsShort unfinished
    → IsSayable (receive unfinished event).said × All IsShort (receive unfinished event).unfinished
unfolding receive
received_good unfinished (DatagramEvent d) are all = read_good unfinished d (header_at d.bytes) are all refl
received_good unfinished Tick are all = (tt, all)
received_good unfinished Quiet are all = (tt, all)
