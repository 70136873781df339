-- The packets of messages: there is one header for all of them, and the reading of a packet gives its message back.
use Rattle.std.proofs.Common.{◌≡◌, ◌≢◌, ℕ, ◌<◌, ◌≤◌, ◌==◌, Bool, true, false, List, ◌++◌, drop, Option, Some, None, Result, Ok, Err, refl, sym, ap, ◌∙◌, subst, arith, length-append}
use Rattle.std.specs.Prelude.{All}
use Rattle.std.proofs.lemmas.List.{take-append-drop}
use Rattle.std.proofs.lemmas.List.Elements.{All-from_get_or}
use Rattle.std.proofs.Math.Seq.{drop-append_seam}
use Rattle.r2_base.specs.declared.addr.Addr.{Addr}
use Rattle.r2_base.specs.Numbers.{AreBytes}
use Rattle.r2_header.specs.declared.header.Header.{Header}
use Rattle.r2_header.specs.declared.header_fault.HeaderFault.{HeaderFault}
use Rattle.r2_header.specs.declared.packet.Packet.{Packet}
use Rattle.r2_header.specs.declared.packet.Packet.TheVariants.{Ordering}
use Rattle.r2_header.specs.Header.{IsValid as IsValidHeader, spelling}
use Rattle.r2_header.specs.Laws.{BeginsWith}
use Rattle.r2_header.specs.Reading.{header_at}
use Rattle.r2_header.proofs.Begun.{what_is_read_is_spelled as header_is_spelled}
use Rattle.r2_header.proofs.Sound.{read_back}
use Rattle.r2_header.proofs.Spelling.{length-spelling}
use Rattle.hc_message.specs.declared.msg.Msg.{Msg}
use Rattle.hc_message.specs.declared.msg.Msg.TheVariants.{VoteReq, Vote, Order, Ack, Nack, AggCommit, RecoverAsk, RecoverBody}
use Rattle.hc_message.specs.declared.msg_fault.MsgFault.{MsgFault}
use Rattle.hc_message.specs.declared.msg_fault.MsgFault.TheVariants.{Memory}
use Rattle.hc_message.specs.Laws.{IsSpelled, most_bytes, most_order_bytes}
use Rattle.hc_message.specs.Message.{message_bytes}
use Rattle.hc_message.specs.Reading.{decode_message}
use Rattle.hc_message.proofs.Again.{spelling_is_read}
use Rattle.hc_message.proofs.Sizes.{spellings_are_short}
use Rattle.hc_message.proofs.Taken.{no_bytes_want_memory, what_is_read_is_spelled}
use Rattle.hc_message.proofs.Takes.{AreBytes-drop}
use Rattle.hc_packet.specs.Laws.{IsPacketOf, PacketsAreRead, PacketsAreShort, WhatIsReadIsAPacket, is_recovery}
use Rattle.hc_packet.specs.Packet.{message_after, message_carried, message_header, message_in, message_packet, message_read}

-- the type, policy and request id of an ORDERING packet, its flags and its count are all fixed
ordering_only : (policy id number : ℕ) (first last : Bool) (client : Option Addr)
    → IsValidHeader (record { packet = Ordering; policy = policy; first = first; last = last; id = id; number = number; client = client })
    → record { packet = Ordering; policy = policy; first = first; last = last; id = id; number = number; client = client } ≡ message_header
ordering_only policy id number first last (Some a) valid = absurd (omega (arith, valid.policy.low, valid.policy.high))
ordering_only policy id number false last None valid = absurd (omega (arith, valid.number.low, valid.number.high))
ordering_only policy id number true last None valid =
    let one : number ≡ 1 = omega (arith, valid.number.low, valid.number.high) in
    let replicated : policy ≡ 2 = omega (arith, valid.policy.low, valid.policy.high) in
    let ends : last ≡ true = valid.last ∙ ap (λ (n : ℕ). n == 1) one in
    rw (one, replicated, ends, valid.id) refl

ordering_header : (h : Header) → IsValidHeader h → h.packet ≡ Ordering → h ≡ message_header
ordering_header h valid is =
    let same : h ≡ record h { packet = Ordering } = ap (λ (packet : Packet). record h { packet = packet }) is in
    same ∙ ordering_only h.policy h.id h.number h.first h.last h.client (subst IsValidHeader same valid)

-- a header of an ORDERING packet, and then a message
pub packet_is : (h : Header) (size : ℕ) (bytes : List ℕ) (m : Msg) → BeginsWith h size bytes → h.packet ≡ Ordering → IsSpelled m (drop size bytes) → IsPacketOf m bytes
packet_is h size bytes m begins is spelled = record {
  valid = spelled.spells.valid;
  fits = spelled.fits;
  same = sym (take-append-drop size bytes)
      ∙ ap (λ (l : List ℕ). l ++ drop size bytes) (begins.spells.same ∙ ap spelling (ordering_header h begins.spells.valid is))
      ∙ ap (λ (l : List ℕ). spelling message_header ++ l) spelled.spells.same;
}

-- only an ORDERING packet carries a message
record IsCarried (packet : Packet) (payload : List ℕ) (m : Msg) : Type 0 where
  is : packet ≡ Ordering
  read : decode_message payload ≡ Ok m

read_ok : (r : Result Msg MsgFault) (m : Msg) → message_read r ≡ Some m → r ≡ Ok m
read_ok (Ok n) m e = cc
read_ok (Err fault) m e = absurd cc

carried_is : (packet : Packet) (payload : List ℕ) (m : Msg) → message_carried packet payload ≡ Some m → IsCarried packet payload m
carried_is Ordering payload m e = record { is = refl; read = read_ok (decode_message payload) m e }
carried_is _ payload m e = absurd cc

after_is : (bytes : List ℕ) (m : Msg) (r : Result (Header × ℕ) HeaderFault) → AreBytes bytes → header_at bytes ≡ r → message_after bytes r ≡ Some m → IsPacketOf m bytes
after_is bytes m (Ok (h, size)) are e carries =
    let carried = carried_is h.packet (drop size bytes) m carries in
    let all : All (λ b. b < 256) bytes = All-from_get_or (λ b. b < 256) bytes 0 (λ i within. are i) in
    packet_is h size bytes m (header_is_spelled h size bytes all e) carried.is (what_is_read_is_spelled m (drop size bytes) (AreBytes-drop size bytes are) carried.read)
after_is bytes m (Err fault) are e carries = absurd cc

pub what_is_read_is_a_packet : WhatIsReadIsAPacket
unfolding message_in
what_is_read_is_a_packet m bytes are e = after_is bytes m (header_at bytes) are refl e

-- the packet's header reads as the header, and what is left as the message
pub header_read : (m : Msg) → header_at (message_packet m) ≡ Ok (message_header, 8)
header_read m = read_back message_header (message_packet m) (message_bytes m) 8 (record { id = omega arith; client = tt })
    (record { policy = record { low = omega arith; high = omega arith }; id = refl; number = record { low = omega arith; high = omega arith }; last = refl }) refl refl

payload_left : (m : Msg) → drop 8 (message_packet m) ≡ message_bytes m
payload_left m = ap (λ n. drop n (message_packet m)) (sym (length-spelling message_header)) ∙ drop-append_seam (spelling message_header) (message_bytes m)

pub packet_read : (m : Msg) → decode_message (message_bytes m) ≡ Ok m → message_in (message_packet m) ≡ Some m
unfolding message_in
packet_read m read = rw (header_read m, payload_left m, read) refl

pub packets_are_read : PacketsAreRead
packets_are_read m fits valid = packet_read m (spelling_is_read m (message_bytes m) fits (record { valid = valid; same = refl }))

-- where no message is read, memory isn't wanted: the fault is one of the bytes
none_read : (d r : Result Msg MsgFault) → d ≢ Err Memory → ((fault : MsgFault) → d ≡ Err fault → r ≡ Err fault) → r ≡ Err Memory → message_read d ≡ None → ⊥
none_read (Ok m) r not free is none = absurd cc
none_read (Err fault) r not free is none =
    let same : fault ≡ Memory = let there = free fault refl in cc in
    not (ap (λ (f : MsgFault). Err f) same)

pub none_carried : (bytes : List ℕ) (h : Header) (size : ℕ) (r : Result Msg MsgFault) → header_at bytes ≡ Ok (h, size) → h.packet ≡ Ordering
    → ((fault : MsgFault) → decode_message (drop size bytes) ≡ Err fault → r ≡ Err fault) → r ≡ Err Memory → message_in bytes ≡ None → ⊥
unfolding message_in
none_carried bytes h size r e is free memory none =
    let after : message_after bytes (Ok (h, size)) ≡ None = subst (λ (x : Result (Header × ℕ) HeaderFault). message_after bytes x ≡ None) e none in
    none_read (decode_message (drop size bytes)) r (no_bytes_want_memory (drop size bytes)) free memory
    (subst (λ (packet : Packet). message_carried packet (drop size bytes) ≡ None) is after)

-- no message but one about a body is longer than an Order
most : (m : Msg) → is_recovery m ≡ false → most_bytes m ≤ most_order_bytes
most (VoteReq term member last_index last_term) not = omega arith
most (Vote term member granted) not = omega arith
most (Order term leader prev_index prev_term term_start commit via entries) not = omega arith
most (Ack term member index applied) not = omega arith
most (Nack term member hint) not = omega arith
most (AggCommit term index) not = omega arith
most (RecoverAsk member) not = absurd cc
most (RecoverBody kind body) not = absurd cc

pub packets_are_short : PacketsAreShort
packets_are_short m valid not =
    omega (arith, length-append (spelling message_header) (message_bytes m), length-spelling message_header, spellings_are_short m valid, most m not)
