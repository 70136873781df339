-- What is received of a datagram that was sent.
use Rattle.std.proofs.Common.{◌≡◌, ◌<◌, ◌≤◌, ℕ, zero, suc, true, List, [], ◌∷◌, drop, length, Option, None, Some, refl, sym, ap, subst, ◌∙◌, arith, inl, inr, ◌⊎◌}
use Rattle.std.specs.Prelude.{All, Result, Ok}
use Rattle.std.specs.List.{Contains, slice_get}
use Rattle.std.proofs.lemmas.Option.{same_Some}
use Rattle.std.proofs.lemmas.List.Elements.{All-contains, All-weaker}
use Rattle.std.proofs.Math.Seq.{drop-append_seam}
use Rattle.r2_base.specs.declared.addr.Addr.{Addr}
use Rattle.r2_base.specs.declared.datagram.Datagram.{Datagram}
use Rattle.r2_base.specs.declared.event.Event.TheVariants as event
use Rattle.r2_base.specs.declared.entry.Kind.{Kind}
use Rattle.r2_base.specs.declared.entry.Kind.TheVariants.{Blank, Write, Read}
use Rattle.r2_base.specs.declared.rid.Rid.{Rid}
use Rattle.r2_base.specs.Entry.{is_request}
use Rattle.r2_header.specs.declared.header.Header.{Header}
use Rattle.r2_header.specs.declared.header_fault.HeaderFault.{HeaderFault}
use Rattle.r2_header.specs.Header.{spelling}
use Rattle.r2_header.specs.Reading.{header_at}
use Rattle.r2_header.proofs.Spelling.{length-spelling}
use Rattle.r2_frag.specs.declared.added.Added.{Added}
use Rattle.r2_frag.specs.declared.added.Added.TheVariants.{Whole as WholeBody}
use Rattle.r2_frag.specs.declared.class.Class.{Class}
use Rattle.r2_frag.specs.declared.class.Class.TheVariants as class
use Rattle.r2_frag.specs.declared.key.Key.{Key}
use Rattle.r2_frag.specs.declared.part_spec.PartSpec.{PartSpec}
use Rattle.r2_frag.specs.declared.unfinished.Unfinished.{Unfinished}
use Rattle.r2_frag.specs.Assembly.{added, count_said}
use Rattle.r2_frag.specs.Bodies.{GivesAtOnce, GivesBody, HasOneBody, HasPartsOf, IsPartOf, IsUnfinished}
use Rattle.r2_frag.specs.declared.kept.KeptReply.{KeptReply}
use Rattle.r2_frag.specs.declared.part_count.PartCount.TheVariants.{Exactly}
use Rattle.r2_frag.specs.Replies.{IsReply, reply_parts, reply_spec}
use Rattle.r2_frag.proofs.OnePart.{one_part, unfinished_stay}
use Rattle.r2_base.specs.Names.{FitsRid}
use Rattle.hc_message.specs.Message.{IsValid as IsValidMessage}
use Rattle.hc_member.specs.Sending.{recover_spec}
use Rattle.hc_rules.specs.Requests.{IsKnown}
use Rattle.r2_frag.specs.Keys.{key_at}
use Rattle.r2_frag.specs.Laws.{FitsHeaders}
use Rattle.r2_frag.specs.Parts.{IsSendable, part_count, part_datagram, part_header, parts_of, piece}
use Rattle.r2_frag.proofs.OneBody.{one_body}
use Rattle.r2_frag.proofs.PartLaws.{parts_are_of_the_body, parts_have_the_key}
use Rattle.hc_message.specs.declared.msg.Msg.{Msg}
use Rattle.hc_message.specs.declared.msg.Msg.TheVariants.{VoteReq, Vote, Order, Ack, Nack, AggCommit, RecoverAsk, RecoverBody}
use Rattle.hc_message.specs.declared.msg_fault.MsgFault.{MsgFault}
use Rattle.hc_message.specs.Message.{message_bytes}
use Rattle.hc_message.specs.Reading.{decode_message}
use Rattle.hc_message.proofs.Again.{spelling_is_read}
use Rattle.hc_packet.specs.Packet.{message_header, message_packet}
use Rattle.hc_packet.proofs.Packets.{header_read}
use Rattle.hc_member.specs.declared.setup.Setup.{Setup}
use Rattle.hc_member.specs.Heard.{Received, kind_under, message_said, policy_of, receive, receive_packet, receive_part, receive_read, receive_request, recovery_heard, recovery_said, request_said}
use Rattle.hc_member.specs.Member.{Member}
use Rattle.hc_member.specs.Setup.{own_address}
use Rattle.hc_rules.specs.Log.{In}
use Rattle.hc_rules.specs.Message.{Request}
use Rattle.hc_rules.specs.Protocol.{ProtocolState}
use Rattle.hc_run.specs.Backed.{IsAbout, IsBackedDatagram, IsHeardOf, IsMessage, IsRecoveryPart, IsMadeReplyPart, IsRequestPart, IsSentAs}
use Rattle.hc_run.specs.Held.{HasPartsBy, HasTablesParts, IsAsked}
use Rattle.hc_run.specs.Receiving.{DatagramTurnsAreRules, MessageTurnsAreRules, RequestTurnsAreRules, TimedTurnsAreRules}
use Rattle.hc_run.specs.Steps.{request_spec}
use Rattle.hc_run.specs.Tied.{request_of}
use Rattle.hc_run.specs.WholeTurns.{IsReceived}
use Rattle.hc_run.proofs.Items.{holds-in}
use Rattle.hc_run.proofs.TableBodies.{IsDistinct, at-in, distinct-rest}
use Rattle.hc_run.proofs.WholeTurns.{turn_rules}

-- Ticks --

ticks : (s : Setup) (w : ProtocolState) (m : Member) → All (HasTablesParts w.table) m.unfinished → IsReceived s w (receive m.unfinished event.Tick)
unfolding receive
ticks s w m all = record { heard = tt; unfinished = all }

quiet : (s : Setup) (w : ProtocolState) (m : Member) → All (HasTablesParts w.table) m.unfinished → IsReceived s w (receive m.unfinished event.Quiet)
unfolding receive
quiet s w m all = record { heard = tt; unfinished = all }

pub timed_turns : TimedTurnsAreRules
timed_turns s w m stands =
    let shown = stands.shown in
    let holds = shown.holds in
    (turn_rules s w m event.Tick stands (ticks s w m holds.unfinished), turn_rules s w m event.Quiet stands (quiet s w m holds.unfinished))

-- Messages --

said-sent : (s : Setup) (w : ProtocolState) (from : Addr) (message : Msg) → IsSentAs s.members w (own_address s) message → IsHeardOf s w (message_said from (Ok message))
said-sent s w from (VoteReq a b c d) sent = sent
said-sent s w from (Vote a b c) sent = sent
said-sent s w from (Order a b c d e f g h) sent = sent
said-sent s w from (Ack a b c d) sent = sent
said-sent s w from (Nack a b c) sent = sent
said-sent s w from (AggCommit a b) sent = sent
said-sent s w from (RecoverAsk a) sent = tt
said-sent s w from (RecoverBody a b) sent = tt

no-key : (from to : Addr) → key_at from to message_header ≡ None
unfolding key_at
no-key from to = refl

message-left : (m : Msg) → drop 8 (message_packet m) ≡ message_bytes m
message-left m = ap (λ n. drop n (message_packet m)) (sym (length-spelling message_header)) ∙ drop-append_seam (spelling message_header) (message_bytes m)

message-received : (s : Setup) (w : ProtocolState) (u : List Unfinished) (d : Datagram) → All (HasTablesParts w.table) u → d.to ≡ own_address s → IsMessage s.members w d
    → IsReceived s w (receive u (event.Datagram d))
unfolding receive
message-received s w u d all own is =
    let message = is.message in
    let read : header_at d.bytes ≡ Ok (message_header, 8) = ap header_at is.same ∙ header_read message in
    let payload : drop 8 d.bytes ≡ message_bytes message = ap (drop 8) is.same ∙ message-left message in
    let decoded : decode_message (drop 8 d.bytes) ≡ Ok message =
    ap decode_message payload ∙ spelling_is_read message (message_bytes message) is.fits (record { valid = is.valid; same = refl }) in
    let sent : IsSentAs s.members w (own_address s) message = subst (λ (to : Addr). IsSentAs s.members w to message) own is.sent in
    let heard : IsHeardOf s w (message_said d.from (decode_message (drop 8 d.bytes))) =
    subst (λ (r : Result Msg MsgFault). IsHeardOf s w (message_said d.from r)) (sym decoded) (said-sent s w d.from message sent) in
    subst (λ (r : Result (Header × ℕ) HeaderFault). IsReceived s w (receive_read u d r)) (sym read)
    (subst (λ (k : Option Key). IsReceived s w (receive_packet u d.from message_header (drop 8 d.bytes) k)) (sym (no-key d.from d.to))
    (record { heard = heard; unfinished = all }))

pub message_turns : MessageTurnsAreRules
message_turns s w m d stands own is =
    let shown = stands.shown in
    let holds = shown.holds in
    turn_rules s w m (event.Datagram d) stands (message-received s w m.unfinished d holds.unfinished own is)

-- Parts --

-- the place of an item
pub record IsAt {A : Type 0} (x : A) (l : List A) : Type 0 where
  pub place : ℕ
  pub inside : place < length l
  pub there : slice_get l place ≡ Some x

pub is-at : {A : Type 0} (x : A) (l : List A) → In x l → IsAt x l
is-at x [] there = absurd there
is-at x (y ∷ l) (inl same) = record { place = zero; inside = omega arith; there = ap Some (sym same) }
is-at x (y ∷ l) (inr later) =
    let found = is-at x l later in
    let less = found.inside in
    record { place = suc found.place; inside = omega (arith, less); there = found.there }

-- no request id is found twice
same-request : (table : List Request) (q r : Request) → IsDistinct table → In q table → In r table → q.rid ≡ r.rid → q ≡ r
same-request [] q r distinct a b e = absurd a
same-request (x ∷ more) q r distinct (inl a) (inl b) e = a ∙ sym b
same-request (x ∷ more) q r distinct (inl a) (inr b) e =
    let found = at-in more r b in
    let clash = distinct zero (suc found.0) x r refl found.1 (ap (λ (y : Request). y.rid) (sym a) ∙ e) in
    absurd (omega (arith, clash))
same-request (x ∷ more) q r distinct (inr a) (inl b) e =
    let found = at-in more q a in
    let clash = distinct zero (suc found.0) x q refl found.1 (ap (λ (y : Request). y.rid) (sym b) ∙ sym e) in
    absurd (omega (arith, clash))
same-request (x ∷ more) q r distinct (inr a) (inr b) e = same-request more q r (distinct-rest x more distinct) a b e

kind-again : (kind : Kind) → is_request kind ≡ true → kind_under (policy_of kind) ≡ Some kind
kind-again Blank asks = absurd cc
kind-again Write asks = refl
kind-again Read asks = refl

said-whole : (s : Setup) (w : ProtocolState) (q : Request) (a : Added) → In q w.table → GivesBody q.body a → IsHeardOf s w (request_said q.kind q.rid a)
said-whole s w q (WholeBody b) sent gives = subst (λ (body : List ℕ). In (request_of q.rid q.kind body) w.table) (sym gives) sent
said-whole s w q _ sent gives = tt

all-wait : (table : List Request) (u : List Unfinished) → All (HasTablesParts table) u → All IsUnfinished u
all-wait table u all = All-weaker (HasTablesParts table) IsUnfinished (λ m has. has.waits) u all

all-both : (P Q : Unfinished → Type 0) (u : List Unfinished) → All IsUnfinished u → All P u → ((m : Unfinished) → IsUnfinished m → P m → Q m) → All Q u
all-both P Q u waits all f = λ k m inside. f _ (waits k m inside) (all k m inside)

module _ (s : Setup) (w : ProtocolState) (q : Request) (distinct : IsDistinct w.table) (sent : In q w.table) (asked : IsAsked q) (u : List Unfinished) (all : All (HasTablesParts w.table) u) (to : Addr) where
  abbrev spec : PartSpec
  spec = request_spec q to

  abbrev key : Key
  key = spec.key

  parts-one : (m : Unfinished) → HasTablesParts w.table m → m.key ≡ key → HasPartsOf q.body m
  parts-one m has e =
      let r = has.request in
      let same : r ≡ q = same-request w.table r q distinct has.sent sent (has.named ∙ ap (λ (k : Key). k.rid) e) in
      let parts : HasPartsBy r m class.Request = subst (λ (c : Class). HasPartsBy r m c) (ap (λ (k : Key). k.class) e) has.parts in
      subst (λ (body : List ℕ). HasPartsOf body m) (ap (λ (x : Request). x.body) same) parts.1

  one : HasOneBody q.body key u
  one = All-weaker (HasTablesParts w.table) (λ (m : Unfinished). m.key ≡ key → HasPartsOf q.body m) parts-one u all

  parts-left : (m : Unfinished) → IsUnfinished m → Contains u m ⊎ ((m.key ≡ key) × HasPartsOf q.body m) → HasTablesParts w.table m
  parts-left m waits (inl there) = All-contains (HasTablesParts w.table) u m all there
  parts-left m waits (inr mine) =
      let policy : kind_under m.key.policy ≡ Some q.kind = ap (λ (k : Key). kind_under k.policy) mine.0 ∙ kind-again q.kind asked.asks in
      let here : HasPartsBy q m class.Request = (policy, mine.1) in
      record {
        request = q;
        sent = sent;
        named = ap (λ (k : Key). k.rid) (sym mine.0);
        parts = subst (λ (c : Class). HasPartsBy q m c) (ap (λ (k : Key). k.class) (sym mine.0)) here;
        waits = waits;
      }

  part-added : (h : Header) (payload : List ℕ) → IsPartOf q.body h payload → IsReceived s w (receive_request u h payload key (Some q.kind))
  part-added h payload is =
      let keeps = one_body q.body u key h payload one is in
      record {
        heard = said-whole s w q (added u key h payload).0 sent keeps.answer;
        unfinished =
            all-both (λ (m : Unfinished). Contains u m ⊎ ((m.key ≡ key) × HasPartsOf q.body m)) (HasTablesParts w.table) (added u key h payload).1
            (unfinished_stay u key h payload (all-wait w.table u all)) keeps.left parts-left;
      }

  pub sendable-by : (kind : Kind) → q.kind ≡ kind → is_request kind ≡ true → IsSendable spec q.body
  sendable-by Blank e asks = absurd cc
  sendable-by Write e asks = rw e (record { limit = asked.short; first = record { low = omega arith; high = omega arith }; later = λ more. record { low = omega arith; high = omega arith } })
  sendable-by Read e asks = rw e (record { limit = asked.short; first = record { low = omega arith; high = omega arith }; later = λ more. record { low = omega arith; high = omega arith } })

  pub fits : FitsHeaders spec
  fits = let rid = asked.fits in record { id = rid.id; client = tt }

  part-received : (n : ℕ) → n < part_count q.body → IsReceived s w (receive u (event.Datagram (part_datagram spec q.body n)))
  unfolding receive
  part-received n less =
      let part = (parts_are_of_the_body spec q.body (sendable-by q.kind refl asked.asks) fits).1 n less in
      let d = part_datagram spec q.body n in
      let h = part_header spec (part_count q.body) n in
      let size = length (spelling h) in
      let between = part.between in
      let payload = drop size d.bytes in
      let is : IsPartOf q.body h payload = subst (IsPartOf q.body h) (sym part.payload) part.part in
      let named : key_at d.from d.to h ≡ Some key =
      ap (λ (from : Addr). key_at from d.to h) between.0 ∙ ap (λ (to : Addr). key_at spec.from to h) between.1
      ∙ parts_have_the_key spec (part_count q.body) n (record { client = refl; from = refl }) in
      subst (λ (r : Result (Header × ℕ) HeaderFault). IsReceived s w (receive_read u d r)) (sym part.read)
      (subst (λ (k : Option Key). IsReceived s w (receive_packet u d.from h payload k)) (sym named)
      (subst (λ (k : Option Kind). IsReceived s w (receive_request u h payload key k)) (sym (kind-again q.kind asked.asks)) (part-added h payload is)))

request-received : (s : Setup) (w : ProtocolState) (u : List Unfinished) (d : Datagram) → IsDistinct w.table → All (HasTablesParts w.table) u → (is : IsRequestPart w.table d) → IsAsked is.request
    → IsReceived s w (receive u (event.Datagram d))
request-received s w u d distinct all is asked =
    let q = is.request in
    let spec = request_spec q d.to in
    let found = is-at d (parts_of spec q.body) is.part in
    let laws = parts_are_of_the_body spec q.body (sendable-by s w q distinct is.sent asked u all d.to q.kind refl asked.asks) (fits s w q distinct is.sent asked u all d.to) in
    let inside = found.inside in
    let count = laws.0 in
    let less : found.place < part_count q.body = omega (arith, inside, count) in
    let part = laws.1 found.place less in
    let same : part_datagram spec q.body found.place ≡ d = same_Some _ _ (sym part.placed ∙ found.there) in
    subst (λ (x : Datagram). IsReceived s w (receive u (event.Datagram x))) same
    (part-received s w q distinct is.sent asked u all d.to found.place less)

-- Bodies that are asked for, and given --

recovery-about : (s : Setup) (w : ProtocolState) (from : Addr) (rid : Rid) (message : Msg) → IsAbout w.table rid message → IsHeardOf s w (recovery_said from rid (Ok message))
recovery-about s w from rid (RecoverAsk member) about = about
recovery-about s w from rid (RecoverBody kind body) about = about
recovery-about s w from rid (VoteReq a b c d) about = absurd about
recovery-about s w from rid (Vote a b c) about = absurd about
recovery-about s w from rid (Order a b c d e f g h) about = absurd about
recovery-about s w from rid (Ack a b c d) about = absurd about
recovery-about s w from rid (Nack a b c) about = absurd about
recovery-about s w from rid (AggCommit a b) about = absurd about

recovery-bytes : (s : Setup) (w : ProtocolState) (from : Addr) (rid : Rid) (message : Msg) (bytes : List ℕ) → decode_message bytes ≡ Ok message → IsAbout w.table rid message
    → IsHeardOf s w (recovery_heard from rid (WholeBody bytes))
recovery-bytes s w from rid message bytes read about =
    subst (λ (r : Result Msg MsgFault). IsHeardOf s w (recovery_said from rid r)) (sym read) (recovery-about s w from rid message about)

recovery-gives : (s : Setup) (w : ProtocolState) (from : Addr) (rid : Rid) (message : Msg) (a : Added) → decode_message (message_bytes message) ≡ Ok message → IsAbout w.table rid message
    → GivesBody (message_bytes message) a → IsHeardOf s w (recovery_heard from rid a)
recovery-gives s w from rid message (WholeBody b) read about gives = recovery-bytes s w from rid message b (ap decode_message gives ∙ read) about
recovery-gives s w from rid message _ read about gives = tt

recovery-once : (s : Setup) (w : ProtocolState) (from : Addr) (rid : Rid) (message : Msg) (payload : List ℕ) (a : Added) → decode_message payload ≡ Ok message → IsAbout w.table rid message
    → GivesAtOnce payload a → IsHeardOf s w (recovery_heard from rid a)
recovery-once s w from rid message payload (WholeBody b) read about gives = recovery-bytes s w from rid message b (ap decode_message gives ∙ read) about
recovery-once s w from rid message payload _ read about gives = tt

ask-length : (member : ℕ) → length (message_bytes (RecoverAsk member)) ≡ 2
unfolding message_bytes
ask-length member = refl

ask-count : (member : ℕ) → part_count (message_bytes (RecoverAsk member)) ≡ 1
unfolding message_bytes part_count
ask-count member = refl

ask-piece : (member : ℕ) → piece (message_bytes (RecoverAsk member)) 0 ≡ message_bytes (RecoverAsk member)
unfolding message_bytes piece
ask-piece member = refl

one-said : (x : PartSpec) → count_said (part_header x 1 0) ≡ Exactly 1
unfolding part_header
one-said x = refl

body-length : (kind : Kind) (body : List ℕ) → length (message_bytes (RecoverBody kind body)) ≡ suc (suc (length body))
unfolding message_bytes
body-length kind body = refl

-- what is received of a part of a message about a body
abbrev recovery-received : List Unfinished → Addr → Header → List ℕ → Key → Received
recovery-received u from h payload key = receive_part u from h payload key class.Recover

module _ (s : Setup) (w : ProtocolState) (distinct : IsDistinct w.table) (asked : All IsAsked w.table) (u : List Unfinished) (all : All (HasTablesParts w.table) u) (from to : Addr) (rid : Rid) where
  abbrev rspec : PartSpec
  rspec = recover_spec from to rid

  abbrev rkey : Key
  rkey = rspec.key

  given-one : (kind : Kind) (body : List ℕ) → In (request_of rid kind body) w.table → (m : Unfinished) → HasTablesParts w.table m → m.key ≡ rkey → HasPartsOf (message_bytes (RecoverBody kind body)) m
  given-one kind body sent m has e =
      let r = has.request in
      let q = request_of rid kind body in
      let same : r ≡ q = same-request w.table r q distinct has.sent sent (has.named ∙ ap (λ (k : Key). k.rid) e) in
      let parts : HasPartsBy r m class.Recover = subst (λ (c : Class). HasPartsBy r m c) (ap (λ (k : Key). k.class) e) has.parts in
      subst (λ (x : Request). HasPartsOf (message_bytes (RecoverBody x.kind x.body)) m) same parts

  given-left : (kind : Kind) (body : List ℕ) → In (request_of rid kind body) w.table → (m : Unfinished) → IsUnfinished m
      → Contains u m ⊎ ((m.key ≡ rkey) × HasPartsOf (message_bytes (RecoverBody kind body)) m) → HasTablesParts w.table m
  given-left kind body sent m waits (inl there) = All-contains (HasTablesParts w.table) u m all there
  given-left kind body sent m waits (inr mine) =
      let q = request_of rid kind body in
      let here : HasPartsBy q m class.Recover = mine.1 in
      record {
        request = q;
        sent = sent;
        named = ap (λ (k : Key). k.rid) (sym mine.0);
        parts = subst (λ (c : Class). HasPartsBy q m c) (ap (λ (k : Key). k.class) (sym mine.0)) here;
        waits = waits;
      }

  given-added : (kind : Kind) (body : List ℕ) → IsValidMessage (RecoverBody kind body) → In (request_of rid kind body) w.table → (h : Header) (payload : List ℕ)
      → IsPartOf (message_bytes (RecoverBody kind body)) h payload → IsReceived s w (recovery-received u from h payload rkey)
  given-added kind body valid sent h payload is =
      let message = RecoverBody kind body in
      let bytes = message_bytes message in
      let one = All-weaker (HasTablesParts w.table) (λ (m : Unfinished). m.key ≡ rkey → HasPartsOf bytes m) (given-one kind body sent) u all in
      let keeps = one_body bytes u rkey h payload one is in
      let read = spelling_is_read message bytes tt (record { valid = valid; same = refl }) in
      record {
        heard = recovery-gives s w from rid message (added u rkey h payload).0 read sent keeps.answer;
        unfinished =
            all-both (λ (m : Unfinished). Contains u m ⊎ ((m.key ≡ rkey) × HasPartsOf bytes m)) (HasTablesParts w.table) (added u rkey h payload).1
            (unfinished_stay u rkey h payload (all-wait w.table u all)) keeps.left (given-left kind body sent);
      }

  ask-added : (member : ℕ) → IsValidMessage (RecoverAsk member) → IsKnown w.table rid → (h : Header) (payload : List ℕ) → count_said h ≡ Exactly 1 → payload ≡ message_bytes (RecoverAsk member)
      → IsReceived s w (recovery-received u from h payload rkey)
  ask-added member valid known h payload one same =
      let message = RecoverAsk member in
      let did = one_part u rkey h payload (all-wait w.table u all) one in
      let read = ap decode_message same ∙ spelling_is_read message (message_bytes message) tt (record { valid = valid; same = refl }) in
      record {
        heard = recovery-once s w from rid message payload (added u rkey h payload).0 read known did.0;
        unfinished = subst (λ (l : List Unfinished). All (HasTablesParts w.table) l) (sym did.1) all;
      }

  -- a part of such a message
  about-added : (message : Msg) → IsValidMessage message → IsAbout w.table rid message → (n : ℕ) → n < part_count (message_bytes message) → (payload : List ℕ)
      → payload ≡ piece (message_bytes message) n → IsPartOf (message_bytes message) (part_header rspec (part_count (message_bytes message)) n) payload
      → IsReceived s w (recovery-received u from (part_header rspec (part_count (message_bytes message)) n) payload rkey)
  about-added (RecoverBody kind body) valid sent n less payload same is = given-added kind body valid sent _ payload is
  about-added (RecoverAsk member) valid known n less payload same is =
      let count = ask-count member in
      let first : n ≡ 0 = omega (arith, less, count) in
      let header : part_header rspec (part_count (message_bytes (RecoverAsk member))) n ≡ part_header rspec 1 0 =
      ap (λ (c : ℕ). part_header rspec c n) count ∙ ap (λ (i : ℕ). part_header rspec 1 i) first in
      ask-added member valid known _ payload (ap count_said header ∙ one-said rspec) (same ∙ ap (λ (i : ℕ). piece (message_bytes (RecoverAsk member)) i) first ∙ ask-piece member)
  about-added (VoteReq a b c d) valid about n less payload same is = absurd about
  about-added (Vote a b c) valid about n less payload same is = absurd about
  about-added (Order a b c d e f g h) valid about n less payload same is = absurd about
  about-added (Ack a b c d) valid about n less payload same is = absurd about
  about-added (Nack a b c) valid about n less payload same is = absurd about
  about-added (AggCommit a b) valid about n less payload same is = absurd about

  about-fits : (message : Msg) → IsAbout w.table rid message → FitsRid rid
  about-fits (RecoverBody kind body) sent = let is = holds-in IsAsked (request_of rid kind body) w.table asked sent in is.fits
  about-fits (RecoverAsk member) known =
      let is = holds-in IsAsked known.request w.table asked known.sent in subst FitsRid known.named is.fits
  about-fits (VoteReq a b c d) about = absurd about
  about-fits (Vote a b c) about = absurd about
  about-fits (Order a b c d e f g h) about = absurd about
  about-fits (Ack a b c d) about = absurd about
  about-fits (Nack a b c) about = absurd about
  about-fits (AggCommit a b) about = absurd about

  about-short : (message : Msg) → IsValidMessage message → IsAbout w.table rid message → length (message_bytes message) ≤ 61442
  about-short (RecoverBody kind body) valid sent = let size = body-length kind body in let short = valid.1 in omega (arith, size, short)
  about-short (RecoverAsk member) valid known = let size = ask-length member in omega (arith, size)
  about-short (VoteReq a b c d) valid about = absurd about
  about-short (Vote a b c) valid about = absurd about
  about-short (Order a b c d e f g h) valid about = absurd about
  about-short (Ack a b c d) valid about = absurd about
  about-short (Nack a b c) valid about = absurd about
  about-short (AggCommit a b) valid about = absurd about

  pub about-sendable : (message : Msg) → IsValidMessage message → IsAbout w.table rid message → IsSendable rspec (message_bytes message)
  about-sendable message valid about =
      record { limit = about-short message valid about; first = record { low = omega arith; high = omega arith }; later = λ more. record { low = omega arith; high = omega arith } }

  pub about-headers : (message : Msg) → IsAbout w.table rid message → FitsHeaders rspec
  about-headers message about = let is = about-fits message about in record { id = is.id; client = is.client }

  about-received : (message : Msg) → IsValidMessage message → IsAbout w.table rid message → (n : ℕ) → n < part_count (message_bytes message)
      → IsReceived s w (receive u (event.Datagram (part_datagram rspec (message_bytes message) n)))
  unfolding receive
  about-received message valid about n less =
      let bytes = message_bytes message in
      let part = (parts_are_of_the_body rspec bytes (about-sendable message valid about) (about-headers message about)).1 n less in
      let d = part_datagram rspec bytes n in
      let h = part_header rspec (part_count bytes) n in
      let payload = drop (length (spelling h)) d.bytes in
      let between = part.between in
      let is : IsPartOf bytes h payload = subst (IsPartOf bytes h) (sym part.payload) part.part in
      let named : key_at d.from d.to h ≡ Some rkey =
      ap (λ (a : Addr). key_at a d.to h) between.0 ∙ ap (λ (b : Addr). key_at from b h) between.1
      ∙ parts_have_the_key rspec (part_count bytes) n (record { client = refl; from = refl }) in
      let there : IsReceived s w (recovery-received u d.from h payload rkey) =
      subst (λ (a : Addr). IsReceived s w (recovery-received u a h payload rkey)) (sym between.0) (about-added message valid about n less payload part.payload is) in
      subst (λ (r : Result (Header × ℕ) HeaderFault). IsReceived s w (receive_read u d r)) (sym part.read)
      (subst (λ (k : Option Key). IsReceived s w (receive_packet u d.from h payload k)) (sym named) there)

recovery-part : (s : Setup) (w : ProtocolState) (u : List Unfinished) (d : Datagram) → IsDistinct w.table → All IsAsked w.table → All (HasTablesParts w.table) u → IsRecoveryPart w.table d
    → IsReceived s w (receive u (event.Datagram d))
recovery-part s w u d distinct asked all is =
    let bytes = message_bytes is.message in
    let spec = recover_spec d.from d.to is.rid in
    let found = is-at d (parts_of spec bytes) is.part in
    let laws = parts_are_of_the_body spec bytes (about-sendable s w distinct asked u all d.from d.to is.rid is.message is.valid is.about)
    (about-headers s w distinct asked u all d.from d.to is.rid is.message is.about) in
    let inside = found.inside in
    let count = laws.0 in
    let less : found.place < part_count bytes = omega (arith, inside, count) in
    let part = laws.1 found.place less in
    let same : part_datagram spec bytes found.place ≡ d = same_Some _ _ (sym part.placed ∙ found.there) in
    subst (λ (x : Datagram). IsReceived s w (receive u (event.Datagram x))) same
    (about-received s w distinct asked u all d.from d.to is.rid is.message is.valid is.about found.place less)

-- Replies --

pub reply-sendable : (from : Addr) (r : KeptReply) → IsReply r → IsSendable (reply_spec from r.rid r.policy) r.payload
reply-sendable from r right =
    let most = right.policy in
    record { limit = right.payload; first = record { low = omega arith; high = omega (arith, most) }; later = λ more. record { low = omega arith; high = omega (arith, most) } }

reply-received : (s : Setup) (w : ProtocolState) (u : List Unfinished) → All (HasTablesParts w.table) u → (from : Addr) (r : KeptReply) → IsReply r → FitsRid r.rid
    → (n : ℕ) → n < part_count r.payload → IsReceived s w (receive u (event.Datagram (part_datagram (reply_spec from r.rid r.policy) r.payload n)))
unfolding receive
reply-received s w u all from r right fits n less =
    let spec = reply_spec from r.rid r.policy in
    let part = (parts_are_of_the_body spec r.payload (reply-sendable from r right) (record { id = fits.id; client = tt })).1 n less in
    let d = part_datagram spec r.payload n in
    let h = part_header spec (part_count r.payload) n in
    let payload = drop (length (spelling h)) d.bytes in
    let between = part.between in
    let named : key_at d.from d.to h ≡ Some spec.key =
    ap (λ (a : Addr). key_at a d.to h) between.0 ∙ ap (λ (b : Addr). key_at from b h) between.1
    ∙ parts_have_the_key spec (part_count r.payload) n (record { client = refl; from = refl }) in
    subst (λ (r : Result (Header × ℕ) HeaderFault). IsReceived s w (receive_read u d r)) (sym part.read)
    (subst (λ (k : Option Key). IsReceived s w (receive_packet u d.from h payload k)) (sym named) (record { heard = tt; unfinished = all }))

reply-part : (s : Setup) (w : ProtocolState) (u : List Unfinished) (d : Datagram) → All (HasTablesParts w.table) u → IsMadeReplyPart w d → IsReceived s w (receive u (event.Datagram d))
unfolding reply_parts
reply-part s w u d all is =
    let r = is.reply in
    let fits = is.fits in
    let spec = reply_spec d.from r.rid r.policy in
    let found = is-at d (parts_of spec r.payload) is.part in
    let laws = parts_are_of_the_body spec r.payload (reply-sendable d.from r is.right) (record { id = fits.id; client = tt }) in
    let inside = found.inside in
    let count = laws.0 in
    let less : found.place < part_count r.payload = omega (arith, inside, count) in
    let part = laws.1 found.place less in
    let same : part_datagram spec r.payload found.place ≡ d = same_Some _ _ (sym part.placed ∙ found.there) in
    subst (λ (x : Datagram). IsReceived s w (receive u (event.Datagram x))) same (reply-received s w u all d.from r is.right fits found.place less)

-- Any datagram --

datagram-received : (s : Setup) (w : ProtocolState) (u : List Unfinished) (d : Datagram) → IsDistinct w.table → All IsAsked w.table → All (HasTablesParts w.table) u → d.to ≡ own_address s
    → IsBackedDatagram s.members w d → IsReceived s w (receive u (event.Datagram d))
datagram-received s w u d distinct asked all own (inl is) = request-received s w u d distinct all is (holds-in IsAsked is.request w.table asked is.sent)
datagram-received s w u d distinct asked all own (inr (inl is)) = message-received s w u d all own is
datagram-received s w u d distinct asked all own (inr (inr (inl is))) = recovery-part s w u d distinct asked all is
datagram-received s w u d distinct asked all own (inr (inr (inr is))) = reply-part s w u d all is

pub datagram_turns : DatagramTurnsAreRules
datagram_turns s w m d stands asked own is =
    let shown = stands.shown in
    let holds = shown.holds in
    let kept = stands.kept in
    let requests = kept.requests in
    turn_rules s w m (event.Datagram d) stands (datagram-received s w m.unfinished d requests.table_is_distinct asked holds.unfinished own is)

pub request_turns : RequestTurnsAreRules
request_turns s w m d stands asked is =
    let shown = stands.shown in
    let holds = shown.holds in
    let kept = stands.kept in
    let requests = kept.requests in
    turn_rules s w m (event.Datagram d) stands
    (request-received s w m.unfinished d requests.table_is_distinct holds.unfinished is (holds-in IsAsked is.request w.table asked is.sent))
