-- What a client's session makes of parts of replies: the calls that end by a reply end by a payload whose parts came.
use Rattle.std.proofs.Common.{◌≡◌, ℕ, suc, ◌+◌, Bool, true, false, List, [], ◌∷◌, ◌++◌, Option, Some, None, Result, Ok, Err, refl, sym, ap, ◌∙◌, subst, arith, inl, inr}
use Rattle.std.specs.Prelude.{◌⊎◌, drop, is_some, nat_lt, if◌then◌else◌}
use Rattle.std.specs.List.{All, Contains}
use Rattle.std.proofs.lemmas.Grind.{common_steps}
use Rattle.std.proofs.lemmas.List.Elements.{All-contains, All-weaker}
use Rattle.r2_base.specs.declared.addr.Addr.{Addr}
use Rattle.r2_base.specs.declared.datagram.Datagram.{Datagram}
use Rattle.r2_base.specs.declared.event.Event.{Event}
use Rattle.r2_base.specs.declared.event.Event.TheVariants as event
use Rattle.r2_base.specs.declared.rid.Rid.{Rid}
use Rattle.r2_header.specs.declared.header.Header.{Header}
use Rattle.r2_header.specs.declared.header_fault.HeaderFault.{HeaderFault}
use Rattle.r2_header.specs.declared.packet.Packet.{Packet}
use Rattle.r2_header.specs.declared.packet.Packet.TheVariants.{Req0, Reply as ReplyPacket, ReqRdy, ReqN, Feedback, Reject, Ordering, Recover}
use Rattle.r2_header.specs.Reading.{header_at}
use Rattle.r2_frag.specs.declared.added.Added.{Added}
use Rattle.r2_frag.specs.declared.added.Added.TheVariants.{Bad, Dropped, More, Repeat, Whole}
use Rattle.r2_frag.specs.declared.key.Key.{Key}
use Rattle.r2_frag.specs.declared.unfinished.Unfinished.{Unfinished}
use Rattle.r2_frag.specs.Assembly.{added}
use Rattle.r2_frag.specs.Bodies.{GivesBody, HasOneBody, HasPartsOf, IsPartOf}
use Rattle.r2_frag.specs.Keys.{key_at}
use Rattle.r2_frag.proofs.OneBody.{one_body}
use Rattle.r2_client.specs.declared.begin_fault.BeginFault.{BeginFault}
use Rattle.r2_client.specs.declared.begin_fault.BeginFault.TheVariants.{Outstanding}
use Rattle.r2_client.specs.declared.call_end.CallEnd.{CallEnd}
use Rattle.r2_client.specs.declared.open_call.OpenCall.{OpenCall}
use Rattle.r2_client.specs.Session.{Stepped, began, by_answer, by_packet, is_for, part_added, received, received_as, received_by, reply_part, sent_again, stepped, ticked, ticked_by}
use Rattle.r2_client.specs.State.{SessionState}
use Rattle.r2_link.specs.declared.lane.Item.TheVariants.{Datagram as ADatagram, Quiet as NoDatagram}
use Rattle.hc_rules.specs.Log.{In}
use Rattle.hc_run.specs.ReplyParts.{IsOfReply, ReadsAsReply}
use Rattle.cmd_loop.specs.Round.{due_at}
use Rattle.cmd_client.specs.Talk.{AreInTurn, Asks, Hears, Step, Talk, Tells, course, items_of, listed, stepped_by, taken}
use Rattle.cmd_group.specs.Answers.{AllEndBy, EndsBy}

-- What a session has --

-- a datagram brings a part of a payload that P has of a request
pub record Brings (P : Rid → List ℕ → Type 0) (me : Addr) (d : Datagram) : Type 0 where
  pub rid : Rid
  pub body : List ℕ
  pub holds : P rid body
  pub client : rid.client ≡ me
  pub header : Header
  pub size : ℕ
  pub read : header_at d.bytes ≡ Ok (header, size)
  pub key : Key
  pub keyed : key_at d.from d.to header ≡ Some key
  pub id : rid.id ≡ header.id
  pub names : key.rid ≡ rid
  pub part : IsPartOf body header (drop size d.bytes)

-- and so does each that reads as a part of a reply
abbrev pub IsRight : (Rid → List ℕ → Type 0) → Addr → Datagram → Type 0
IsRight P me d = ReadsAsReply d → Brings P me d

-- unfinished replies have parts of what P has of their requests
abbrev Keeps : (Rid → List ℕ → Type 0) → List Unfinished → Type 0
Keeps P messages = All (λ (m : Unfinished). (body : List ℕ) → P m.key.rid body → HasPartsOf body m) messages

-- so many calls have ended, by the id that the next one has
abbrev StandsBy : ℕ → ℕ → Option OpenCall → Type 0
StandsBy n next None = next ≡ n
StandsBy n next (Some call) = (call.id ≡ n) × (next ≡ suc n)

pub record Stands (P : Rid → List ℕ → Type 0) (n : ℕ) (s : SessionState) : Type 0 where
  pub keeps : Keeps P s.unfinished
  pub counted : StandsBy n s.next s.open_call

abbrev Goes : (Rid → List ℕ → Type 0) → Addr → ℕ → SessionState → Option CallEnd → Type 0
Goes P me n s None = Stands P n s
Goes P me n s (Some end) = EndsBy P (record { id = n; client = me }) end × Stands P (suc n) s

abbrev GoesBy : (Rid → List ℕ → Type 0) → Addr → ℕ → Stepped → Type 0
GoesBy P me n r = Goes P me n r.session r.step.end

-- what is taken in is right
abbrev IsRightEvent : (Rid → List ℕ → Type 0) → Addr → Event → Type 0
IsRightEvent P me (event.Datagram d) = IsRight P me d
IsRightEvent P me event.Tick = Unit {0}
IsRightEvent P me event.Quiet = Unit {0}

same-rid : (r : Rid) (n : ℕ) (me : Addr) → r.id ≡ n → r.client ≡ me → r ≡ record { id = n; client = me }
same-rid r n me p q = λ k. record { id = p k; client = q k }

same-read : (read : Result (Header × ℕ) HeaderFault) (x y : Header × ℕ) → read ≡ Ok x → read ≡ Ok y → x ≡ y
same-read read x y p q = cc

for-id : (call : OpenCall) (h : Header) → is_for call h ≡ true → h.id ≡ call.id
for-id call h e = grind (arith, common_steps)

asks-none : (n next : ℕ) (found : Option OpenCall) (rest : Option BeginFault) → (if is_some found then Some Outstanding else rest) ≡ None → StandsBy n next found → next ≡ n
asks-none n next None rest e counted = counted
asks-none n next (Some call) rest e counted = cc

module _ (P : Rid → List ℕ → Type 0) (one : (rid : Rid) (a b : List ℕ) → P rid a → P rid b → a ≡ b) (me : Addr) where
  -- Parts --

  left-keeps : (messages : List Unfinished) (key : Key) (body : List ℕ) (m : Unfinished) → P key.rid body → Keeps P messages
      → Contains messages m ⊎ ((m.key ≡ key) × HasPartsOf body m) → (b : List ℕ) → P m.key.rid b → HasPartsOf b m
  left-keeps messages key body m here keeps (inl contains) b holds =
      All-contains (λ (x : Unfinished). (y : List ℕ) → P x.key.rid y → HasPartsOf y x) messages m keeps contains b holds
  left-keeps messages key body m here keeps (inr both) b holds =
      subst (λ (x : List ℕ). HasPartsOf x m) (one key.rid body b here (subst (λ (k : Key). P k.rid b) both.0 holds)) both.1

  added-keeps : (messages : List Unfinished) (key : Key) (body : List ℕ) (h : Header) (payload : List ℕ) → P key.rid body → IsPartOf body h payload → Keeps P messages
      → GivesBody body (added messages key h payload).0 × Keeps P (added messages key h payload).1
  added-keeps messages key body h payload here part keeps =
      let has : HasOneBody body key messages =
      All-weaker (λ (m : Unfinished). (b : List ℕ) → P m.key.rid b → HasPartsOf b m) (λ (m : Unfinished). m.key ≡ key → HasPartsOf body m)
      (λ m kept same. kept body (subst (λ (k : Key). P k.rid body) (sym same) here)) messages keeps in
      let law = one_body body messages key h payload has part in (
        law.answer,
        All-weaker (λ (m : Unfinished). Contains messages m ⊎ ((m.key ≡ key) × HasPartsOf body m)) (λ (m : Unfinished). (b : List ℕ) → P m.key.rid b → HasPartsOf b m)
            (λ m was. left-keeps messages key body m here keeps was) (added messages key h payload).1 law.left,
      )

  by-answer : (n : ℕ) (s : SessionState) (body : List ℕ) (answer : Added) → Stands P n s → s.next ≡ suc n → P (record { id = n; client = me }) body → GivesBody body answer
      → GoesBy P me n (by_answer s answer)
  by-answer n s body (Whole b) stands next holds gives =
      (subst (P (record { id = n; client = me })) (sym gives) holds, record { keeps = stands.keeps; counted = next })
  by-answer n s body More stands next holds gives = stands
  by-answer n s body Repeat stands next holds gives = stands
  by-answer n s body (Bad why) stands next holds gives = absurd gives
  by-answer n s body (Dropped key) stands next holds gives = stands

  part-goes : (n : ℕ) (s : SessionState) (h : Header) (payload body : List ℕ) (key : Key) → Stands P n s → s.next ≡ suc n → key.rid ≡ record { id = n; client = me }
      → P (record { id = n; client = me }) body → IsPartOf body h payload → GoesBy P me n (part_added s h payload key)
  unfolding part_added
  part-goes n s h payload body key stands next names holds part =
      let r = added s.unfinished key h payload in
      let both = added-keeps s.unfinished key body h payload (subst (λ (x : Rid). P x body) (sym names) holds) part stands.keeps in
      by-answer n (record s { unfinished = r.1 }) body r.0 (record { keeps = both.1; counted = stands.counted }) next holds both.0

  -- Packets --

  if-goes : (n : ℕ) (b : Bool) (x y : Stepped) → (b ≡ true → GoesBy P me n x) → GoesBy P me n y → GoesBy P me n (if b then x else y)
  if-goes n true x y first other = first refl
  if-goes n false x y first other = other

  reply-goes : (n : ℕ) (s : SessionState) (call : OpenCall) (d : Datagram) (h : Header) (size : ℕ) → Stands P n s → call.id ≡ n → s.next ≡ suc n → is_for call h ≡ true
      → header_at d.bytes ≡ Ok (h, size) → Brings P me d → GoesBy P me n (reply_part s h (drop size d.bytes) (key_at d.from d.to h))
  reply-goes n s call d h size stands id next for e b =
      let both = same-read (header_at d.bytes) (h, size) (b.header, b.size) e b.read in
      let header : h ≡ b.header = ap (λ (x : Header × ℕ). x.0) both in
      let length : size ≡ b.size = ap (λ (x : Header × ℕ). x.1) both in
      let keyed : key_at d.from d.to h ≡ Some b.key = ap (λ (x : Header). key_at d.from d.to x) header ∙ b.keyed in
      let rid : b.rid ≡ record { id = n; client = me } = same-rid b.rid n me (b.id ∙ sym (ap (λ (x : Header). x.id) header) ∙ for-id call h for ∙ id) b.client in
      let part : IsPartOf b.body h (drop size d.bytes) =
      subst (λ (x : Header). IsPartOf b.body x (drop size d.bytes)) (sym header) (subst (λ (k : ℕ). IsPartOf b.body b.header (drop k d.bytes)) (sym length) b.part) in
      subst (λ (o : Option Key). GoesBy P me n (reply_part s h (drop size d.bytes) o)) (sym keyed)
      (part-goes n s h (drop size d.bytes) b.body b.key stands next (b.names ∙ rid) (subst (λ (x : Rid). P x b.body) rid b.holds) part)

  packet-goes : (n : ℕ) (s : SessionState) (call : OpenCall) (d : Datagram) (h : Header) (size : ℕ) (p : Packet) → h.packet ≡ p → Stands P n s → call.id ≡ n → s.next ≡ suc n
      → is_for call h ≡ true → header_at d.bytes ≡ Ok (h, size) → IsRight P me d → GoesBy P me n (by_packet s call d h (drop size d.bytes) p)
  packet-goes n s call d h size ReqRdy type stands id next for e right = stands
  packet-goes n s call d h size ReplyPacket type stands id next for e right =
      reply-goes n s call d h size stands id next for e (right (subst IsOfReply (sym e) type))
  packet-goes n s call d h size Reject type stands id next for e right = (tt, record { keeps = stands.keeps; counted = next })
  packet-goes n s call d h size Req0 type stands id next for e right = stands
  packet-goes n s call d h size ReqN type stands id next for e right = stands
  packet-goes n s call d h size Feedback type stands id next for e right = stands
  packet-goes n s call d h size Ordering type stands id next for e right = stands
  packet-goes n s call d h size Recover type stands id next for e right = stands

  read-goes : (n : ℕ) (s : SessionState) (call : OpenCall) (d : Datagram) (read : Result (Header × ℕ) HeaderFault) → header_at d.bytes ≡ read → Stands P n s → call.id ≡ n → s.next ≡ suc n
      → IsRight P me d → GoesBy P me n (received_as s d call read)
  read-goes n s call d (Ok (h, size)) e stands id next right =
      if-goes n (is_for call h) _ _ (λ for. packet-goes n s call d h size h.packet refl stands id next for e right) stands
  read-goes n s call d (Err fault) e stands id next right = stands

  found-goes : (n : ℕ) (s : SessionState) (d : Datagram) (found : Option OpenCall) → Stands P n s → StandsBy n s.next found → IsRight P me d
      → GoesBy P me n (received_by s d found)
  found-goes n s d (Some call) stands counted right = read-goes n s call d (header_at d.bytes) refl stands counted.0 counted.1 right
  found-goes n s d None stands counted right = stands

  -- Ticks --

  tick-goes : (n : ℕ) (s : SessionState) (found : Option OpenCall) → Stands P n s → StandsBy n s.next found → GoesBy P me n (ticked_by s found)
  unfolding sent_again
  tick-goes n s (Some call) stands counted =
      if-goes n (nat_lt (call.ticks + 1) s.wait) _ _ (λ so. record { keeps = stands.keeps; counted = counted })
      (if-goes n (nat_lt call.sendings s.tries) _ _ (λ so. record { keeps = stands.keeps; counted = counted })
      (tt, record { keeps = stands.keeps; counted = counted.1 }))
  tick-goes n s None stands counted = stands

  -- Events --

  event-goes : (n : ℕ) (s : SessionState) (e : Event) → Stands P n s → IsRightEvent P me e → GoesBy P me n (stepped s e)
  unfolding received ticked
  event-goes n s (event.Datagram d) stands right = found-goes n s d s.open_call stands stands.counted right
  event-goes n s event.Tick stands right = tick-goes n s s.open_call stands stands.counted
  event-goes n s event.Quiet stands right = stands

  due-goes : (n : ℕ) (s : SessionState) (b : Bool) → Stands P n s → GoesBy P me n (stepped_by s (if b then event.Tick ∷ [] else []))
  due-goes n s true stands = event-goes n s event.Tick stands tt
  due-goes n s false stands = stands

  -- Talks --

  listed-then : (n : ℕ) (s : SessionState) (end : Option CallEnd) (rest : List CallEnd) → Goes P me n s end → ((k : ℕ) → Stands P k s → AllEndBy P me k rest)
      → AllEndBy P me n (listed end ++ rest)
  listed-then n s None rest goes more = more n goes
  listed-then n s (Some end) rest goes more = (goes.0, more (suc n) goes.1)

  pub all-end : (n : ℕ) (t : Talk) (steps : List Step) → Stands P n t.session → AreInTurn t steps → ((d : Datagram) → In (ADatagram d) (items_of steps) → IsRight P me d)
      → AllEndBy P me n (course t steps).ends
  unfolding course items_of began
  all-end n t [] stands in_turn right = tt
  all-end n t (Asks policy body ∷ more) stands in_turn right =
      let may = in_turn.0 in
      let next : t.session.next ≡ n = asks-none n t.session.next t.session.open_call _ may.2 stands.counted in
      all-end n (taken t (Asks policy body)).next more (record { keeps = stands.keeps; counted = (next, omega (arith, next)) }) in_turn.1 right
  all-end n t (Hears (ADatagram d) ∷ more) stands in_turn right =
      let r = stepped t.session (event.Datagram d) in
      listed-then n r.session r.step.end _ (event-goes n t.session (event.Datagram d) stands (right d (inl refl)))
      (λ k stood. all-end k (taken t (Hears (ADatagram d))).next more stood in_turn.1 (λ x there. right x (inr there)))
  all-end n t (Hears NoDatagram ∷ more) stands in_turn right =
      listed-then n t.session None _ stands
      (λ k stood. all-end k (taken t (Hears NoDatagram)).next more stood in_turn.1 (λ x there. right x (inr there)))
  all-end n t (Tells moment ∷ more) stands in_turn right =
      let r = stepped_by t.session (due_at t.ticker moment) in
      listed-then n r.session r.step.end _ (due-goes n t.session _ stands)
      (λ k stood. all-end k (taken t (Tells moment)).next more stood in_turn.1 right)
