-- Which datagrams begin a reply: the first part of each, and nothing else that is sent.
use Rattle.std.proofs.Common.{◌≡◌, ℕ, zero, suc, ◌+◌, ◌*◌, ◌/◌, ◌<◌, ◌≤◌, ◌&&◌, Bool, false, List, [], ◌∷◌, ◌++◌, map, Option, None, Some, refl, ap, ◌∙◌, arith}
use Rattle.std.specs.Prelude.{All, if◌then◌else◌}
use Rattle.std.specs.List.{range_with_len}
use Rattle.std.proofs.lemmas.List.Elements.{All-cons, All-nil}
use Rattle.r2_base.specs.declared.addr.Addr.{Addr}
use Rattle.r2_base.specs.declared.datagram.Datagram.{Datagram}
use Rattle.r2_base.specs.Limits.{id_limit}
use Rattle.r2_header.specs.declared.header.Header.{Header}
use Rattle.r2_header.specs.declared.header_fault.HeaderFault.{HeaderFault}
use Rattle.r2_header.specs.Header.{kind_bytes, spelling}
use Rattle.r2_header.specs.Reading.{fields_at, header_at, ok_unless, packet_numbered}
use Rattle.r2_header.specs.Table.{type_number}
use Rattle.r2_header.proofs.Fields.{packet_numbered-type_number}
use Rattle.r2_frag.specs.declared.kept.KeptReply.{KeptReply}
use Rattle.r2_frag.specs.declared.part_spec.PartSpec.{PartSpec}
use Rattle.r2_frag.specs.Laws.{FitsHeaders}
use Rattle.r2_frag.specs.Parts.{part_count, part_datagram, part_header, part_type}
use Rattle.r2_frag.specs.Replies.{IsReply, reply_spec}
use Rattle.r2_frag.proofs.Headers.{suc-other}
use Rattle.r2_frag.proofs.PartLaws.{parts_are_of_the_body}
use Rattle.hc_message.specs.declared.msg.Msg.{Msg}
use Rattle.hc_packet.specs.Packet.{message_datagram}
use Rattle.hc_packet.proofs.Packets.{header_read}
use Rattle.hc_run.proofs.Receiving.{reply-sendable}
use Rattle.hc_world.specs.Notes.{begun_id, id_begun, id_read, is_reply}

-- no reply begins with it
abbrev pub BeginsNone : Datagram → Type 0
BeginsNone d = begun_id d ≡ None

-- Other datagrams --

-- the type in a header's bytes, whatever else is in them
packet-read : (h : Header) (rest : List ℕ) → h.policy < 16 → (fields_at (spelling h ++ rest)).packet ≡ h.packet
unfolding fields_at spelling kind_bytes
packet-read h rest low =
    let type : (type_number h.packet * 16 + h.policy) / 16 ≡ type_number h.packet = omega arith in
    ap packet_numbered type ∙ packet_numbered-type_number h.packet

not-begun : (fault : Option HeaderFault) (h : Header) (size : ℕ) → is_reply h.packet ≡ false → id_read (ok_unless fault (h, size)) ≡ None
not-begun (Some f) h size not = refl
not-begun None h size not = ap (λ (b : Bool). if b && h.first then Some h.id else None) not

other-none : (from to : Addr) (h : Header) (rest : List ℕ) → h.policy < 16 → is_reply h.packet ≡ false
    → BeginsNone (record { from = from; to = to; bytes = spelling h ++ rest })
unfolding begun_id header_at
other-none from to h rest low not =
    not-begun _ (fields_at (spelling h ++ rest)) _ (ap is_reply (packet-read h rest low) ∙ not)

-- nor with a part of another class
pub parts-none : (spec : PartSpec) (body : List ℕ) (numbers : List ℕ) → spec.key.policy < 16 → ((n : ℕ) → is_reply (part_type spec.key.class n) ≡ false)
    → All BeginsNone (map (part_datagram spec body) numbers)
unfolding part_datagram part_header
parts-none spec body [] low not = All-nil BeginsNone
parts-none spec body (n ∷ numbers) low not =
    All-cons BeginsNone (part_datagram spec body n) (map (part_datagram spec body) numbers)
    (other-none spec.from spec.to (part_header spec (part_count body) n) _ low (not n))
    (parts-none spec body numbers low not)

-- nor with a message
pub message-none : (from to : Addr) (message : Msg) → BeginsNone (message_datagram from to message)
unfolding begun_id
message-none from to message = ap id_read (header_read message)

-- Replies --

module _ (own : Addr) (reply : KeptReply) (is : IsReply reply) (low : reply.rid.id < id_limit) where
  abbrev pub spec : PartSpec
  spec = reply_spec own reply.rid reply.policy

  fits : FitsHeaders spec
  fits = record { id = low; client = tt }

  -- what a part's header says
  part-says : (n : ℕ) → n < part_count reply.payload → begun_id (part_datagram spec reply.payload n) ≡ id_begun (part_header spec (part_count reply.payload) n)
  unfolding begun_id
  part-says n within =
      let parts = parts_are_of_the_body spec reply.payload (reply-sendable own reply is) fits in
      let one = parts.1 n within in
      ap id_read one.read

  -- the first part begins the reply
  pub first-begins : 0 < part_count reply.payload → begun_id (part_datagram spec reply.payload 0) ≡ Some reply.rid.id
  unfolding part_header
  first-begins within = part-says 0 within

  later-says : (n : ℕ) → 0 < n → id_begun (part_header spec (part_count reply.payload) n) ≡ None
  unfolding part_header
  later-says zero set = absurd (omega (arith, set))
  later-says (suc n) set = ap (λ (b : Bool). if b then Some reply.rid.id else None) (suc-other n)

  -- and the others don't
  pub later-none : (count n : ℕ) → 0 < n → n + count ≤ part_count reply.payload → All BeginsNone (map (part_datagram spec reply.payload) (range_with_len n count))
  later-none zero n set within = All-nil BeginsNone
  later-none (suc count) n set within =
      All-cons BeginsNone (part_datagram spec reply.payload n) (map (part_datagram spec reply.payload) (range_with_len (n + 1) count))
      (part-says n (omega (arith, within)) ∙ later-says n set)
      (later-none count (n + 1) (omega arith) (omega (arith, within)))
