-- What is heard of a datagram is as it may be, whatever its bytes are.
use Rattle.std.proofs.Common.{◌≡◌, ◌≤◌, ℕ, List, drop, length, Option, None, Some, refl, subst}
use Rattle.std.specs.Prelude.{All, Result, Ok, Err, Bool, true, false, ◌==◌, if◌then◌else◌}
use Rattle.r2_base.specs.Limits.{most_body}
use Rattle.r2_base.specs.declared.addr.Addr.{Addr}
use Rattle.r2_base.specs.declared.datagram.Datagram.{Datagram}
use Rattle.r2_base.specs.declared.event.Event.{Event}
use Rattle.r2_base.specs.declared.event.Event.TheVariants as event
use Rattle.r2_base.specs.declared.entry.Kind.{Kind}
use Rattle.r2_base.specs.declared.entry.Kind.TheVariants.{Write, Read}
use Rattle.r2_base.specs.Entry.{is_request}
use Rattle.r2_base.specs.declared.rid.Rid.{Rid}
use Rattle.r2_header.specs.declared.header.Header.{Header}
use Rattle.r2_header.specs.declared.header_fault.HeaderFault.{HeaderFault}
use Rattle.r2_header.specs.declared.packet.Packet.{Packet}
use Rattle.r2_header.specs.declared.packet.Packet.TheVariants.{Ordering}
use Rattle.r2_header.specs.Header.{IsValid as IsValidHeader}
use Rattle.r2_header.specs.Reading.{header_at}
use Rattle.r2_header.proofs.Begun.{read_is_valid}
use Rattle.r2_frag.specs.declared.added.Added.{Added}
use Rattle.r2_frag.specs.declared.added.Added.TheVariants.{Whole as WholeBody}
use Rattle.r2_frag.specs.declared.class.Class.{Class}
use Rattle.r2_frag.specs.declared.class.Class.TheVariants as class
use Rattle.r2_frag.specs.declared.key.Key.{Key}
use Rattle.r2_frag.specs.declared.unfinished.Unfinished.{Unfinished}
use Rattle.r2_frag.specs.Keys.{class_of, key_at}
use Rattle.r2_frag.specs.Assembly.{added}
use Rattle.r2_frag.specs.Sizes.{IsShort, most_bytes}
use Rattle.r2_frag.proofs.Sizes.{key_at-class, whole_is_short, stays_short}
use Rattle.hc_message.specs.declared.msg.Msg.{Msg}
use Rattle.hc_message.specs.declared.msg.Msg.TheVariants.{RecoverAsk, RecoverBody}
use Rattle.hc_message.specs.declared.msg_fault.MsgFault.{MsgFault}
use Rattle.hc_message.specs.Message.{IsValid}
use Rattle.hc_message.specs.Reading.{decode_message}
use Rattle.hc_member.specs.Heard.{Received, IsSayable, kind_under, message_said, recovery_heard, recovery_said, request_said, receive_request, receive_part, receive_packet, receive_read, receive, single_said}
use Rattle.hc_run.proofs.Decoded.{decoded_is_valid}

-- what may be said, and what may be heard later
abbrev pub IsHeard : Received → Type 0
IsHeard x = IsSayable x.said × All IsShort x.unfinished

-- a request that is whole
whole_said : (kind : Kind) (rid : Rid) (a : Added) → is_request kind ≡ true → ((body : List ℕ) → a ≡ WholeBody body → length body ≤ most_body)
    → IsSayable (request_said kind rid a)
whole_said kind rid (WholeBody body) asks short = record { asks = asks; body = short body refl }
whole_said kind rid _ asks short = tt

-- a message that was read
recovery_valid : (from : Addr) (rid : Rid) (r : Result Msg MsgFault) → ((m : Msg) → r ≡ Ok m → IsValid m) → IsSayable (recovery_said from rid r)
recovery_valid from rid (Ok (RecoverAsk member)) valid = valid (RecoverAsk member) refl
recovery_valid from rid (Ok (RecoverBody kind body)) valid = valid (RecoverBody kind body) refl
recovery_valid from rid _ valid = tt

recovered_valid : (from : Addr) (rid : Rid) (a : Added) → IsSayable (recovery_heard from rid a)
recovered_valid from rid (WholeBody bytes) = recovery_valid from rid (decode_message bytes) (decoded_is_valid bytes)
recovered_valid from rid _ = tt

message_valid : (from : Addr) (r : Result Msg MsgFault) → ((m : Msg) → r ≡ Ok m → IsValid m) → IsSayable (message_said from r)
message_valid from (Ok (RecoverAsk member)) valid = tt
message_valid from (Ok (RecoverBody kind body)) valid = tt
message_valid from (Ok m) valid = valid m refl
message_valid from (Err fault) valid = tt

single_valid : (from : Addr) (payload : List ℕ) (packet : Packet) → IsSayable (single_said from payload packet)
single_valid from payload Ordering = message_valid from (decode_message payload) (decoded_is_valid payload)
single_valid from payload _ = tt

-- the requests of a group are to write or to read
asks_by : (writes reads : Bool) (kind : Kind) → (if writes then Some Write else if reads then Some Read else None) ≡ Some kind → is_request kind ≡ true
asks_by true reads kind e = let same : Write ≡ kind = cc in subst (λ (k : Kind). is_request k ≡ true) same refl
asks_by false true kind e = let same : Read ≡ kind = cc in subst (λ (k : Kind). is_request k ≡ true) same refl
asks_by false false kind e = cc

module _ (unfinished : List Unfinished) (from : Addr) (h : Header) (payload : List ℕ) (all : All IsShort unfinished) (valid : IsValidHeader h) where
  request_heard : (key : Key) (kind : Option Kind) → class_of h.packet ≡ Some key.class → key.class ≡ class.Request
      → ((k : Kind) → kind ≡ Some k → is_request k ≡ true) → IsHeard (receive_request unfinished h payload key kind)
  request_heard key None e is asks = (tt, all)
  request_heard key (Some kind) e is asks = (
    whole_said kind key.rid (added unfinished key h payload).0 (asks kind refl)
        (λ body whole. subst (λ (c : Class). length body ≤ most_bytes c) is (whole_is_short unfinished key h payload body all valid e whole)),
    stays_short unfinished key h payload all valid e,
  )

  part_heard : (key : Key) (c : Class) → class_of h.packet ≡ Some key.class → key.class ≡ c → IsHeard (receive_part unfinished from h payload key c)
  part_heard key class.Request e is = request_heard key (kind_under key.policy) e is (λ k f. asks_by (key.policy == 2) (key.policy == 3) k f)
  part_heard key class.Reply e is = (tt, all)
  part_heard key class.Recover e is = (recovered_valid from key.rid (added unfinished key h payload).0, stays_short unfinished key h payload all valid e)

  packet_heard : (key : Option Key) → ((k : Key) → key ≡ Some k → class_of h.packet ≡ Some k.class) → IsHeard (receive_packet unfinished from h payload key)
  packet_heard None e = (single_valid from payload h.packet, all)
  packet_heard (Some key) e = part_heard key key.class (e key refl) refl

read_heard : (unfinished : List Unfinished) (d : Datagram) (r : Result (Header × ℕ) HeaderFault) → All IsShort unfinished → header_at d.bytes ≡ r
    → IsHeard (receive_read unfinished d r)
read_heard unfinished d (Err fault) all e = (tt, all)
read_heard unfinished d (Ok (h, size)) all e =
    packet_heard unfinished d.from h (drop size d.bytes) all (read_is_valid h size d.bytes e) (key_at d.from d.to h) (λ k f. key_at-class d.from d.to h k f)

-- what an event says is as it may be, and what is left unfinished may be heard later
pub heard : (unfinished : List Unfinished) (e : Event) → All IsShort unfinished → IsHeard (receive unfinished e)
unfolding receive
heard unfinished (event.Datagram d) all = read_heard unfinished d (header_at d.bytes) all refl
heard unfinished event.Tick all = (tt, all)
heard unfinished event.Quiet all = (tt, all)
