-- A datagram that is a part of a reply reads as a part of its payload, under a key of its request.
use Rattle.std.proofs.Common.{◌≡◌, ℕ, ◌+◌, ◌*◌, ◌/◌, ◌%◌, ◌<◌, ◌≤◌, ◌==◌, Bool, true, false, List, ◌++◌, length, Option, Some, None, Result, Ok, Err, refl, sym, ap, ◌∙◌, subst, arith}
use Rattle.std.specs.Prelude.{drop, is_some, if◌then◌else◌}
use Rattle.std.specs.List.{range_with_len}
use Rattle.std.proofs.lemmas.Grind.{common_steps}
use Rattle.std.proofs.lemmas.List.FromFn.{length-map-range_with_len}
use Rattle.std.proofs.lemmas.Option.{same_Some}
use Rattle.r2_base.specs.declared.addr.Addr.{Addr}
use Rattle.r2_base.specs.declared.datagram.Datagram.{Datagram}
use Rattle.r2_header.specs.declared.header.Header.{Header}
use Rattle.r2_header.specs.declared.header_fault.HeaderFault.{HeaderFault}
use Rattle.r2_header.specs.declared.packet.Packet.TheVariants.{Req0, Reply as ReplyPacket, ReqRdy, ReqN, Feedback, Reject, Ordering, Recover}
use Rattle.r2_header.specs.Header.{IsValid, kind_bytes, spelling}
use Rattle.r2_header.specs.Reading.{fields_at, header_at, packet_numbered}
use Rattle.r2_header.specs.Span.{IsWithin}
use Rattle.r2_header.specs.Table.{policies, type_number}
use Rattle.r2_header.proofs.Begun.{read_is_valid}
use Rattle.r2_header.proofs.Checks.{ok_unless-ok}
use Rattle.r2_frag.specs.declared.kept.KeptReply.{KeptReply}
use Rattle.r2_frag.specs.declared.key.Key.{Key}
use Rattle.r2_frag.specs.declared.part_spec.PartSpec.{PartSpec}
use Rattle.r2_frag.specs.Bodies.{IsPartOf}
use Rattle.r2_frag.specs.Keys.{key_at}
use Rattle.r2_frag.specs.Parts.{part_count, part_datagram, part_header, parts_of, piece}
use Rattle.r2_frag.specs.Replies.{reply_parts, reply_spec}
use Rattle.r2_frag.proofs.PartLaws.{parts_are_of_the_body, parts_have_the_key}
use Rattle.hc_rules.specs.Log.{In}
use Rattle.hc_rules.specs.Message.{Reply}
use Rattle.hc_run.specs.ReplyParts.{IsOfReply, ReadsAsReply}
use Rattle.hc_run.proofs.Items.{made-of}
use Rattle.hc_run.proofs.Receiving.{is-at, reply-sendable}
use Rattle.cmd_group.specs.Answers.{FitsPackets}

-- Policies --

-- only type 1 is a reply's
by-tests : (a b c d e f g : Bool)
    → (if a then Req0 else (if b then ReplyPacket else (if c then ReqRdy else (if d then ReqN else (if e then Feedback else (if f then Reject else (if g then Ordering else Recover))))))) ≡ ReplyPacket
    → b ≡ true
by-tests true b c d e f g is = cc
by-tests false true c d e f g is = refl
by-tests false false true d e f g is = cc
by-tests false false false true e f g is = cc
by-tests false false false false true f g is = cc
by-tests false false false false false true g is = cc
by-tests false false false false false false true is = cc
by-tests false false false false false false false is = cc

equal : (n k : ℕ) → (n == k) ≡ true → n ≡ k
equal n k e = grind (arith, common_steps)

numbered-one : (n : ℕ) → packet_numbered n ≡ ReplyPacket → n ≡ 1
numbered-one n e = equal n 1 (by-tests (n == 0) (n == 1) (n == 2) (n == 3) (n == 4) (n == 5) (n == 6) e)

within-reply : (client : Option Addr) (p : ℕ) → IsWithin (policies ReplyPacket (is_some client)) p → p ≤ 3
within-reply None p within = within.high
within-reply (Some a) p within = let low = within.low in let high = within.high in absurd (omega (arith, low, high))

-- the policy of a reply's header is one that there is
valid-policy : (h : Header) → h.packet ≡ ReplyPacket → IsValid h → h.policy ≤ 3
valid-policy h is valid = within-reply h.client h.policy (subst (λ p. IsWithin (policies p (is_some h.client)) h.policy) is valid.policy)

-- bytes that begin as a reply's header
begin-low : (h : Header) (rest : List ℕ) (read : Header) → h.packet ≡ ReplyPacket → fields_at (spelling h ++ rest) ≡ read → read.packet ≡ ReplyPacket → read.policy ≤ 3
    → h.policy ≤ 3
unfolding fields_at spelling kind_bytes
begin-low h rest read type same is low =
    let number : (type_number h.packet * 16 + h.policy) / 16 ≡ 1 = numbered-one _ (ap (λ (x : Header). x.packet) same ∙ is) in
    let policy : (type_number h.packet * 16 + h.policy) % 16 ≡ read.policy = ap (λ (x : Header). x.policy) same in
    let one : type_number h.packet ≡ 1 = ap type_number type in
    omega (arith, number, policy, one, low)

-- a header and a size that were read are those of the fields
read-low : (h : Header) (rest : List ℕ) (read : Header) (size : ℕ) → h.packet ≡ ReplyPacket → header_at (spelling h ++ rest) ≡ Ok (read, size) → read.packet ≡ ReplyPacket
    → h.policy ≤ 3
unfolding header_at
read-low h rest read size type e is =
    let both = ok_unless-ok {A = Header × ℕ} _ _ _ e in
    begin-low h rest read type (ap (λ (x : Header × ℕ). x.0) both.1) is (valid-policy read is (read_is_valid read size (spelling h ++ rest) e))

-- Parts --

-- a datagram reads as a part of a reply's payload: under a key of its request, with the id in the header and the client as the address that
-- it goes to
pub record IsReadPart (d : Datagram) (r : Reply) : Type 0 where
  pub header : Header
  pub size : ℕ
  pub read : header_at d.bytes ≡ Ok (header, size)
  pub key : Key
  pub keyed : key_at d.from d.to header ≡ Some key
  pub id : r.request.id ≡ header.id
  pub names : key.rid ≡ r.request
  pub to : d.to ≡ r.request.client
  pub part : IsPartOf r.payload header (drop size d.bytes)

-- what reads as a part of a reply has such a header
record ReadReply (read : Result (Header × ℕ) HeaderFault) : Type 0 where
  header : Header
  size : ℕ
  same : read ≡ Ok (header, size)
  type : header.packet ≡ ReplyPacket

read-reply : (read : Result (Header × ℕ) HeaderFault) → IsOfReply read → ReadReply read
read-reply (Ok (h, size)) is = record { header = h; size = size; same = refl; type = is }
read-reply (Err fault) is = absurd is

module _ (from : Addr) (r : Reply) (policy : ℕ) where
  abbrev spec : PartSpec
  spec = reply_spec from r.request policy

  -- its policy is one that there is
  part-low : (n : ℕ) → ReadsAsReply (part_datagram spec r.payload n) → policy ≤ 3
  unfolding part_datagram part_header
  part-low n reads =
      let found = read-reply (header_at (part_datagram spec r.payload n).bytes) reads in
      read-low (part_header spec (part_count r.payload) n) (piece r.payload n) found.header found.size refl found.same found.type

  policy-low : (d : Datagram) → In d (parts_of spec r.payload) → ReadsAsReply d → policy ≤ 3
  unfolding parts_of
  policy-low d there reads =
      let made = made-of (part_datagram spec r.payload) d (range_with_len 0 (part_count r.payload)) there in
      part-low made.item (subst ReadsAsReply made.made reads)

  -- so it reads as a part of the payload
  one-part : (n : ℕ) → policy ≤ 3 → FitsPackets r → n < part_count r.payload → IsReadPart (part_datagram spec r.payload n) r
  unfolding part_header part_datagram
  one-part n low fits less =
      let kept : KeptReply = record { rid = r.request; policy = policy; payload = r.payload } in
      let sendable = reply-sendable from kept (record { policy = low; payload = fits.payload }) in
      let request = fits.request in
      let part = (parts_are_of_the_body spec r.payload sendable (record { id = request.id; client = tt })).1 n less in
      let header = part_header spec (part_count r.payload) n in
      record {
        header = header;
        size = length (spelling header);
        read = part.read;
        key = spec.key;
        keyed = parts_have_the_key spec (part_count r.payload) n (record { client = refl; from = refl });
        id = refl;
        names = refl;
        to = refl;
        part = subst (λ (p : List ℕ). IsPartOf r.payload header p) (sym part.payload) part.part;
      }

  pub part-read : (d : Datagram) → In d (reply_parts from r.request policy r.payload) → ReadsAsReply d → FitsPackets r → IsReadPart d r
  unfolding reply_parts parts_of
  part-read d there reads fits =
      let found = is-at d (parts_of spec r.payload) there in
      let inside = found.inside in
      let low = policy-low d there reads in
      let count : length (parts_of spec r.payload) ≡ part_count r.payload = length-map-range_with_len (part_datagram spec r.payload) 0 (part_count r.payload) in
      let less : found.place < part_count r.payload = omega (arith, inside, count) in
      let kept : KeptReply = record { rid = r.request; policy = policy; payload = r.payload } in
      let request = fits.request in
      let sendable = reply-sendable from kept (record { policy = low; payload = fits.payload }) in
      let part = (parts_are_of_the_body spec r.payload sendable (record { id = request.id; client = tt })).1 found.place less in
      let same : part_datagram spec r.payload found.place ≡ d = same_Some _ _ (sym part.placed ∙ found.there) in
      subst (λ (x : Datagram). IsReadPart x r) same (one-part found.place low fits less)
