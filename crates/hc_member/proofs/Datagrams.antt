-- The datagrams of what is sent are short, and those of several parts may be sent so.
use Rattle.std.proofs.Common.{ℕ, ◌≤◌, List, [], length, get_or, Option, None, Some, arith, length-append}
use Rattle.std.specs.Prelude.{All}
use Rattle.std.specs.List.{range_with_len}
use Rattle.std.proofs.lemmas.List.Elements.{All-cons, All-map, All-nil}
use Rattle.r2_base.specs.declared.addr.Addr.{Addr}
use Rattle.r2_base.specs.declared.datagram.Datagram.{Datagram}
use Rattle.r2_base.specs.declared.rid.Rid.{Rid}
use Rattle.r2_header.specs.Header.{size_with, spelling}
use Rattle.r2_header.proofs.Spelling.{length-spelling}
use Rattle.r2_frag.specs.declared.part_spec.PartSpec.{PartSpec}
use Rattle.r2_frag.specs.Parts.{IsSendable, part_count, part_datagram, part_header, parts_of, piece}
use Rattle.r2_frag.specs.Replies.{reply_parts, reply_spec}
use Rattle.r2_frag.proofs.BodyPieces.{piece-most}
use Rattle.hc_message.specs.declared.msg.Msg.{Msg}
use Rattle.hc_message.specs.Message.{message_bytes}
use Rattle.hc_packet.specs.Packet.{message_datagram, message_header}
use Rattle.hc_member.specs.Setup.{own_address}
use Rattle.hc_member.specs.Laws.{DatagramsAreShort, most_datagram_bytes}
use Rattle.hc_member.specs.Sending.{Tell, Recover, Reply, IsSent, datagrams_of, recover_spec}

abbrev IsShort : Datagram → Type 0
IsShort d = length d.bytes ≤ most_datagram_bytes

size-most : (client : Option Addr) → size_with client ≤ 16
size-most None = omega arith
size-most (Some a) = omega arith

-- a part has a header and a piece
part-short : (spec : PartSpec) (body : List ℕ) (n : ℕ) → IsShort (part_datagram spec body n)
unfolding part_datagram
part-short spec body n =
    let header = part_header spec (part_count body) n in
    let long = length-append (spelling header) (piece body n) in
    let size = length-spelling header in
    let most = size-most header.client in
    let small = piece-most body n in
    omega (arith, long, size, most, small)

parts-short : (spec : PartSpec) (body : List ℕ) → All IsShort (parts_of spec body)
unfolding parts_of
parts-short spec body =
    All-map IsShort (part_datagram spec body) (range_with_len 0 (part_count body))
    (λ k d inside. part-short spec body (get_or (range_with_len 0 (part_count body)) k d))

pub datagrams_are_short : DatagramsAreShort
unfolding datagrams_of reply_parts
datagrams_are_short s (Tell to message) sent =
    let long = length-append (spelling message_header) (message_bytes message) in
    let size = length-spelling message_header in
    let few = sent.2 in
    All-cons IsShort (message_datagram (own_address s) to message) [] (omega (arith, long, size, few)) (All-nil IsShort)
datagrams_are_short s (Recover to rid message) sent = parts-short (recover_spec (own_address s) to rid) (message_bytes message)
datagrams_are_short s (Reply reply) sent = parts-short (reply_spec (own_address s) reply.rid reply.policy) reply.payload

-- a message about a body may be sent in parts
pub recover-sendable : (from to : Addr) (rid : Rid) (message : Msg) → IsSent (Recover to rid message) → IsSendable (recover_spec from to rid) (message_bytes message)
recover-sendable from to rid message sent =
    record { limit = sent.2; first = record { low = omega arith; high = omega arith }; later = λ several. record { low = omega arith; high = omega arith } }
