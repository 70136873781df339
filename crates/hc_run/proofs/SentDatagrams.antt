-- The datagrams of what was sent are backed, and its replies were made.
use Rattle.std.proofs.Common.{◌≡◌, ℕ, zero, suc, ◌<◌, ◌≤◌, true, List, [], ◌∷◌, length, map, get_or, refl, sym, ap, subst, arith, inl, inr}
use Rattle.std.specs.Prelude.{All}
use Rattle.std.specs.List.{range_with_len}
use Rattle.std.proofs.lemmas.List.Concat.{flat_map-cons}
use Rattle.std.proofs.lemmas.List.Elements.{All-append, All-cons, All-head, All-nil, All-tail}
use Rattle.r2_base.specs.declared.addr.Addr.{Addr}
use Rattle.r2_base.specs.declared.datagram.Datagram.{Datagram}
use Rattle.r2_base.specs.declared.entry.Entry.{Entry}
use Rattle.r2_base.specs.declared.entry.Kind.{Kind}
use Rattle.r2_base.specs.declared.entry.Kind.TheVariants.{Blank, Write, Read}
use Rattle.r2_base.specs.declared.rid.Rid.{Rid}
use Rattle.r2_base.specs.Entry.{NamesReplier, is_request, no_rid}
use Rattle.r2_base.specs.Names.{FitsRid}
use Rattle.r2_frag.specs.declared.part_spec.PartSpec.{PartSpec}
use Rattle.r2_frag.specs.Parts.{part_count, part_datagram, parts_of}
use Rattle.r2_frag.specs.Replies.{reply_parts, reply_spec}
use Rattle.hc_message.specs.declared.msg.Msg.{Msg}
use Rattle.hc_message.specs.declared.msg.Msg.TheVariants.{VoteReq, Vote, Order, Ack, Nack, AggCommit, RecoverAsk, RecoverBody}
use Rattle.hc_message.specs.Entry.{IsEntry}
use Rattle.hc_message.specs.Laws.{FitsMessage}
use Rattle.hc_message.specs.Message.{IsValid, message_bytes}
use Rattle.hc_packet.specs.Packet.{message_datagram}
use Rattle.hc_member.specs.declared.setup.Setup.{Setup}
use Rattle.hc_member.specs.Sending.{IsSent, Sending, Tell, Recover, Reply as ReplyTo, datagrams_of, datagrams_of_all, recover_spec}
use Rattle.hc_member.specs.Setup.{own_address}
use Rattle.hc_rules.specs.Kept.{Kept}
use Rattle.hc_rules.specs.Log.{In, entry_at}
use Rattle.hc_rules.specs.Message.{Reply, Request}
use Rattle.hc_rules.specs.Protocol.{ProtocolState}
use Rattle.hc_rules.specs.Replies.{Answered}
use Rattle.hc_rules.specs.Requests.{IsKnown}
use Rattle.hc_run.specs.Backed.{IsBacked, IsBackedDatagram, IsSentAs}
use Rattle.hc_run.specs.Held.{IsAsked}
use Rattle.hc_run.specs.Steps.{replies, reply_from}
use Rattle.hc_run.proofs.Items.{all-in, holds-in}
use Rattle.hc_run.proofs.OrderRows.{order-known}

-- Request ids --

-- that of a request of the table fits its fields
known-fits : (table : List Request) (rid : Rid) → All IsAsked table → IsKnown table rid → FitsRid rid
known-fits table rid asked known = subst FitsRid known.named (holds-in IsAsked known.request table asked known.sent).fits

-- and so does that of an entry, which is a request's, or that of a blank one
blank-fits : (rid : Rid) → rid ≡ no_rid → FitsRid rid
blank-fits rid same = subst FitsRid (sym same) (record { id = omega arith; client = record { ip = omega arith; port = omega arith } })

entry-fits : (table : List Request) (e : Entry) (k : Kind) → e.kind ≡ k → All IsAsked table → NamesReplier k e.rid e.replier → (is_request k ≡ true → IsKnown table e.rid)
    → FitsRid e.rid
entry-fits table e Blank same asked names known = blank-fits e.rid names.0
entry-fits table e Write same asked names known = known-fits table e.rid asked (known refl)
entry-fits table e Read same asked names known = known-fits table e.rid asked (known refl)

-- what a message says fits its fields
pub message-fits : (members : List Addr) (w : ProtocolState) (to : Addr) (message : Msg) → Kept w → All IsAsked w.table → IsValid message → IsSentAs members w to message
    → FitsMessage message
message-fits members w to (VoteReq a b c d) kept asked valid sent = tt
message-fits members w to (Vote a b granted) kept asked valid sent = tt
message-fits members w to (Order a b c d e f via entries) kept asked valid sent =
    λ k x inside.
    let known = order-known w _ kept sent k x inside in
    let ordered = valid.1 in
    let is : IsEntry (get_or entries k x) = ordered.each k x inside in
    entry-fits w.table (get_or entries k x) (get_or entries k x).kind refl asked is.replier known
message-fits members w to (Ack a b c d) kept asked valid sent = tt
message-fits members w to (Nack a b c) kept asked valid sent = tt
message-fits members w to (AggCommit a b) kept asked valid sent = tt
message-fits members w to (RecoverAsk a) kept asked valid sent = tt
message-fits members w to (RecoverBody a b) kept asked valid sent = tt

-- an entry of a book that asks for something is a request of the table
book-fits : (w : ProtocolState) (term index : ℕ) → Kept w → All IsAsked w.table → 0 < index → index ≤ length (w.book term) → is_request (entry_at (w.book term) index).kind ≡ true
    → FitsRid (entry_at (w.book term) index).rid
book-fits w term zero kept asked set within asks = absurd (omega (arith, set))
book-fits w term (suc k) kept asked set within asks =
    let logs = kept.logs in
    let formed = logs.logs_are_formed in
    let listed = (formed.of_book term).listed k within asks in
    known-fits w.table (entry_at (w.book term) (suc k)).rid asked (record { request = listed.request; sent = listed.sent; named = listed.named })

-- a reply names a request of the table
reply-fits : (w : ProtocolState) (r : Reply) → Kept w → Answered w → All IsAsked w.table → In r w.replied → FitsRid r.request
reply-fits w r kept answered asked made =
    let right = answered.replies_are_right r made in
    let committed = right.committed in
    let low = right.low in
    let within = committed.within in
    subst FitsRid right.named (book-fits w right.term r.index kept asked right.first (omega (arith, low, within)) right.asks)

-- Datagrams --

-- each part goes from where the message does to where it does
pub parts-between : (spec : PartSpec) (body : List ℕ) (d : Datagram) → In d (parts_of spec body) → (d.from ≡ spec.from) × (d.to ≡ spec.to)
unfolding parts_of part_datagram
parts-between spec body d there = mapped (range_with_len 0 (part_count body)) there
  where
    mapped : (numbers : List ℕ) → In d (map (part_datagram spec body) numbers) → (d.from ≡ spec.from) × (d.to ≡ spec.to)
    mapped [] there = absurd there
    mapped (n ∷ numbers) (inl same) = (ap (λ (x : Datagram). x.from) same, ap (λ (x : Datagram). x.to) same)
    mapped (n ∷ numbers) (inr later) = mapped numbers later

module _ (s : Setup) (w : ProtocolState) (kept : Kept w) (answered : Answered w) (asked : All IsAsked w.table) where
  one-backed : (x : Sending) → IsSent x → IsBacked s w x → All (IsBackedDatagram s.members w) (datagrams_of s x)
  unfolding datagrams_of reply_parts
  one-backed (Tell to message) is backed =
      let d = message_datagram (own_address s) to message in
      All-cons (IsBackedDatagram s.members w) d []
      (inr (inl (record { message = message; valid = is.0; fits = message-fits s.members w to message kept asked is.0 backed; same = refl; sent = backed })))
      (All-nil (IsBackedDatagram s.members w))
  one-backed (Recover to rid message) is backed =
      let own = own_address s in
      let spec = recover_spec own to rid in
      let body = message_bytes message in
      all-in (IsBackedDatagram s.members w) (parts_of spec body)
      (λ d part.
      let ends = parts-between spec body d part in
      let there = subst (λ (a : Addr). In d (parts_of (recover_spec a d.to rid) body)) (sym ends.0) (subst (λ (a : Addr). In d (parts_of (recover_spec own a rid) body)) (sym ends.1) part) in
      inr (inr (inl (record { rid = rid; message = message; valid = is.0; about = backed; part = there }))))
  one-backed (ReplyTo reply) is backed =
      let own = own_address s in
      let spec = reply_spec own reply.rid reply.policy in
      all-in (IsBackedDatagram s.members w) (parts_of spec reply.payload)
      (λ d part.
      let ends = parts-between spec reply.payload d part in
      let there = subst (λ (a : Addr). In d (parts_of (reply_spec a reply.rid reply.policy) reply.payload)) (sym ends.0) part in
      inr (inr (inr (record {
        reply = reply;
        right = is;
        fits = reply-fits w (reply_from (length w.table) reply) kept answered asked backed;
        made = record { place = length w.table; made = backed };
        part = there;
      }))))

  -- each datagram of all that was sent is backed
  pub sent-backed : (sends : List Sending) → All IsSent sends → All (IsBacked s w) sends → All (IsBackedDatagram s.members w) (datagrams_of_all s sends)
  sent-backed [] sent backed = All-nil (IsBackedDatagram s.members w)
  sent-backed (x ∷ sends) sent backed =
      rw (flat_map-cons (datagrams_of s) x sends)
      (All-append (IsBackedDatagram s.members w) (datagrams_of s x) (datagrams_of_all s sends)
      (one-backed x (All-head IsSent x sends sent) (All-head (IsBacked s w) x sends backed))
      (sent-backed sends (All-tail IsSent x sends sent) (All-tail (IsBacked s w) x sends backed)))

-- Replies --

-- each reply among what was sent was made
pub replies-made : (s : Setup) (w : ProtocolState) (sends : List Sending) (before : List Reply) → All (IsBacked s w) sends → ((r : Reply) → In r before → In r w.replied)
    → (r : Reply) → In r (replies (length w.table) sends before) → In r w.replied
replies-made s w [] before backed old r there = old r there
replies-made s w (Tell to message ∷ sends) before backed old r there =
    replies-made s w sends before (All-tail (IsBacked s w) (Tell to message) sends backed) old r there
replies-made s w (Recover to rid message ∷ sends) before backed old r there =
    replies-made s w sends before (All-tail (IsBacked s w) (Recover to rid message) sends backed) old r there
replies-made s w (ReplyTo reply ∷ sends) before backed old r there =
    let made = All-head (IsBacked s w) (ReplyTo reply) sends backed in
    replies-made s w sends (reply_from (length w.table) reply ∷ before) (All-tail (IsBacked s w) (ReplyTo reply) sends backed) (more made) r there
  where
    more : In (reply_from (length w.table) reply) w.replied → (q : Reply) → In q (reply_from (length w.table) reply ∷ before) → In q w.replied
    more made q (inl same) = subst (λ (x : Reply). In x w.replied) (sym same) made
    more made q (inr later) = old q later
