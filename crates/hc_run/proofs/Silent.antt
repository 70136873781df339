-- Which datagrams don't read as parts of replies: messages, and parts of requests and of messages about bodies.
use Rattle.std.proofs.Common.{◌≡◌, ℕ, zero, suc, ◌*◌, ◌+◌, ◌/◌, ◌<◌, List, [], ◌∷◌, ◌++◌, map, Option, None, Some, sym, ap, ◌∙◌, subst, arith, inl, inr}
use Rattle.std.specs.List.{range_with_len}
use Rattle.r2_base.specs.declared.addr.Addr.{Addr}
use Rattle.r2_base.specs.declared.datagram.Datagram.{Datagram}
use Rattle.r2_base.specs.declared.entry.Kind.{Kind}
use Rattle.r2_base.specs.declared.entry.Kind.TheVariants.{Blank, Write, Read}
use Rattle.r2_header.specs.declared.header.Header.{Header}
use Rattle.r2_header.specs.declared.header_fault.HeaderFault.{HeaderFault}
use Rattle.r2_header.specs.declared.packet.Packet.TheVariants.{Reply as ReplyPacket}
use Rattle.r2_header.specs.Header.{kind_bytes, spelling}
use Rattle.r2_header.specs.Reading.{fields_at, header_at, ok_unless, packet_numbered}
use Rattle.r2_header.specs.Table.{type_number}
use Rattle.r2_header.proofs.Fields.{packet_numbered-type_number}
use Rattle.r2_frag.specs.declared.class.Class.TheVariants as class
use Rattle.r2_frag.specs.declared.part_spec.PartSpec.{PartSpec}
use Rattle.r2_frag.specs.Parts.{part_count, part_datagram, part_header, part_type, parts_of}
use Rattle.hc_message.specs.declared.msg.Msg.{Msg}
use Rattle.hc_message.specs.Message.{message_bytes}
use Rattle.hc_packet.specs.Packet.{message_datagram}
use Rattle.hc_packet.proofs.Packets.{header_read}
use Rattle.hc_member.specs.Heard.{policy_of}
use Rattle.hc_member.specs.Sending.{recover_spec}
use Rattle.r2_base.specs.declared.rid.Rid.{Rid}
use Rattle.hc_rules.specs.Log.{In}
use Rattle.hc_rules.specs.Message.{Request}
use Rattle.hc_run.specs.ReplyParts.{IsOfReply, ReadsAsReply}
use Rattle.hc_run.specs.Steps.{request_spec}

-- a datagram doesn't read as a part of a reply
abbrev pub IsSilent : Datagram → Type 0
IsSilent d = ReadsAsReply d → ⊥

-- the type in a header's bytes, whatever follows them
packet-read : (h : Header) (rest : List ℕ) → h.policy < 16 → (fields_at (spelling h ++ rest)).packet ≡ h.packet
unfolding fields_at spelling kind_bytes
packet-read h rest low =
    let type : (type_number h.packet * 16 + h.policy) / 16 ≡ type_number h.packet = omega arith in
    ap packet_numbered type ∙ packet_numbered-type_number h.packet

not-of-reply : (fault : Option HeaderFault) (h : Header) (size : ℕ) → (h.packet ≡ ReplyPacket → ⊥) → IsOfReply (ok_unless fault (h, size)) → ⊥
not-of-reply (Some f) h size other reads = reads
not-of-reply None h size other reads = other reads

other-silent : (from to : Addr) (h : Header) (rest : List ℕ) → h.policy < 16 → (h.packet ≡ ReplyPacket → ⊥)
    → IsSilent (record { from = from; to = to; bytes = spelling h ++ rest })
unfolding header_at
other-silent from to h rest low other reads =
    not-of-reply _ (fields_at (spelling h ++ rest)) _ (λ is. other (sym (packet-read h rest low) ∙ is)) reads

-- no part of another class does
pub parts-silent : (spec : PartSpec) (body : List ℕ) (d : Datagram) → spec.key.policy < 16 → ((n : ℕ) → part_type spec.key.class n ≡ ReplyPacket → ⊥)
    → In d (parts_of spec body) → IsSilent d
unfolding parts_of part_datagram part_header
parts-silent spec body d low other there = among (range_with_len 0 (part_count body)) there
  where
    among : (numbers : List ℕ) → In d (map (part_datagram spec body) numbers) → IsSilent d
    among [] there = absurd there
    among (n ∷ numbers) (inl same) =
        subst IsSilent (sym same) (other-silent spec.from spec.to (part_header spec (part_count body) n) _ low (other n))
    among (n ∷ numbers) (inr later) = among numbers later

request-type : (n : ℕ) → part_type class.Request n ≡ ReplyPacket → ⊥
request-type zero is = absurd cc
request-type (suc n) is = absurd cc

policy-low : (k : Kind) → policy_of k < 16
policy-low Blank = omega arith
policy-low Write = omega arith
policy-low Read = omega arith

-- nor a part of a request
pub request-silent : (q : Request) (to : Addr) (d : Datagram) → In d (parts_of (request_spec q to) q.body) → IsSilent d
request-silent q to d there = parts-silent (request_spec q to) q.body d (policy-low q.kind) request-type there

-- nor one of a message about a body
pub recovery-silent : (from to : Addr) (rid : Rid) (message : Msg) (d : Datagram) → In d (parts_of (recover_spec from to rid) (message_bytes message)) → IsSilent d
recovery-silent from to rid message d there =
    parts-silent (recover_spec from to rid) (message_bytes message) d (omega arith) (λ n is. absurd cc) there

-- nor a message
pub message-silent : (from to : Addr) (message : Msg) → IsSilent (message_datagram from to message)
message-silent from to message reads = absurd (let is = subst IsOfReply (header_read message) reads in cc)
