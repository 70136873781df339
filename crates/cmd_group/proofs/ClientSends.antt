-- What a client's session sends under REPLICATED and REPLICATED_READ: parts of the requests of its calls, to each member of the group.
use Rattle.std.proofs.Common.{◌≡◌, ◌⊎◌, ℕ, suc, ◌+◌, ◌≤◌, Bool, true, false, List, [], ◌∷◌, ◌++◌, Option, Some, None, Result, Ok, Err, refl, sym, ap, ◌∙◌, subst, arith, inl, inr}
use Rattle.std.specs.Prelude.{drop, nat_lt, if◌then◌else◌}
use Rattle.std.proofs.lemmas.Grind.{common_steps}
use Rattle.r2_base.specs.declared.addr.Addr.{Addr}
use Rattle.r2_base.specs.declared.datagram.Datagram.{Datagram}
use Rattle.r2_base.specs.declared.event.Event.{Event}
use Rattle.r2_base.specs.declared.event.Event.TheVariants as event
use Rattle.r2_header.specs.declared.header.Header.{Header}
use Rattle.r2_header.specs.declared.header_fault.HeaderFault.{HeaderFault}
use Rattle.r2_header.specs.declared.packet.Packet.{Packet}
use Rattle.r2_header.specs.declared.packet.Packet.TheVariants.{Req0, Reply as ReplyPacket, ReqRdy, ReqN, Feedback, Reject, Ordering, Recover}
use Rattle.r2_header.specs.Policy.{replicated, replicated_read}
use Rattle.r2_header.specs.Reading.{header_at}
use Rattle.r2_header.proofs.Begun.{read_is_valid}
use Rattle.r2_frag.specs.declared.added.Added.{Added}
use Rattle.r2_frag.specs.declared.added.Added.TheVariants.{Bad, Dropped, More, Repeat, Whole}
use Rattle.r2_frag.specs.declared.key.Key.{Key}
use Rattle.r2_frag.specs.Assembly.{added}
use Rattle.r2_frag.specs.Keys.{key_at}
use Rattle.r2_client.specs.declared.open_call.OpenCall.{OpenCall}
use Rattle.r2_client.specs.Sendings.{request_to, sending}
use Rattle.r2_client.specs.Session.{Stepped, began, by_answer, by_packet, is_for, new_call, part_added, received, received_as, received_by, reply_part, sent_again, stepped, ticked, ticked_by}
use Rattle.r2_client.specs.State.{SessionState}
use Rattle.r2_client.proofs.OtherParts.{only_plain}
use Rattle.hc_rules.specs.Log.{In}
use Rattle.hc_rules.specs.Message.{Request}
use Rattle.hc_run.specs.Group.{Group}
use Rattle.hc_run.specs.Steps.{request_parts}
use Rattle.hc_run.proofs.Items.{in-parts}
use Rattle.cmd_loop.specs.Events.{event_of}
use Rattle.cmd_loop.specs.Round.{due_at}
use Rattle.cmd_client.specs.Talk.{Asked, Asks, Hears, Step, Talk, Tells, asked_in, course, stepped_by, taken}
use Rattle.cmd_group.specs.Asked.{IsPartOfOne, request_of_call, requests_of}

-- What a session has --

-- a policy under which requests go to each member
abbrev pub IsToAll : ℕ → Type 0
IsToAll policy = (policy ≡ replicated) ⊎ (policy ≡ replicated_read)

-- the open call's request is one of these
abbrev OpensOne : Addr → List Request → Option OpenCall → Type 0
OpensOne me requests None = Unit {0}
OpensOne me requests (Some call) = IsToAll call.policy × In (request_of_call me call.id (record { policy = call.policy; body = call.body })) requests

-- a session at its address, with this id next, sends to the members of a group
pub record Serves (g : Group) (me : Addr) (requests : List Request) (next : ℕ) (s : SessionState) : Type 0 where
  pub at : s.me ≡ me
  pub targets : s.targets ≡ g.members
  pub counts : s.next ≡ next
  pub opens : OpensOne me requests s.open_call

-- all that is sent are parts of these requests
abbrev AreParts : Group → List Request → List Datagram → Type 0
AreParts g requests sends = (d : Datagram) → In d sends → IsPartOfOne g requests d

abbrev GoesOn : Group → Addr → List Request → ℕ → Stepped → Type 0
GoesOn g me requests next r = Serves g me requests next r.session × AreParts g requests r.step.sends

-- Sendings --

-- a request goes to each member
sent-to-all : (g : Group) (me : Addr) (call : OpenCall) (policy : ℕ) → IsToAll policy
    → sending me g.members (record call { policy = policy }) ≡ request_parts g (request_of_call me call.id (record { policy = policy; body = call.body }))
unfolding sending request_to request_parts
sent-to-all g me call policy (inl same) =
    subst (λ (p : ℕ). sending me g.members (record call { policy = p }) ≡ request_parts g (request_of_call me call.id (record { policy = p; body = call.body }))) (sym same) refl
sent-to-all g me call policy (inr same) =
    subst (λ (p : ℕ). sending me g.members (record call { policy = p }) ≡ request_parts g (request_of_call me call.id (record { policy = p; body = call.body }))) (sym same) refl

above-plain : (policy : ℕ) → IsToAll policy → policy ≤ 1 → ⊥
above-plain policy (inl same) low = omega (arith, same, low)
above-plain policy (inr same) low = omega (arith, same, low)

for-policy : (call : OpenCall) (h : Header) → is_for call h ≡ true → h.policy ≡ call.policy
for-policy call h e = grind (arith, common_steps)

module _ (g : Group) (me : Addr) (requests : List Request) where
  call-parts : (s : SessionState) (call : OpenCall) (next : ℕ) → Serves g me requests next s → OpensOne me requests (Some call) → AreParts g requests (sending s.me s.targets call)
  call-parts s call next serves opens d there =
      let own : sending s.me s.targets call ≡ sending me g.members call =
      ap (λ (a : Addr). sending a s.targets call) serves.at ∙ ap (λ (l : List Addr). sending me l call) serves.targets in
      record {
        request = request_of_call me call.id (record { policy = call.policy; body = call.body });
        there = opens.1;
        part = subst (λ (l : List Datagram). In d l) (own ∙ sent-to-all g me call call.policy opens.0) there;
      }

  if-on : (next : ℕ) (b : Bool) (x y : Stepped) → (b ≡ true → GoesOn g me requests next x) → GoesOn g me requests next y → GoesOn g me requests next (if b then x else y)
  if-on next true x y first other = first refl
  if-on next false x y first other = other

  -- Datagrams --

  answer-on : (next : ℕ) (s : SessionState) (answer : Added) → Serves g me requests next s → GoesOn g me requests next (by_answer s answer)
  answer-on next s (Whole b) serves = (record { at = serves.at; targets = serves.targets; counts = serves.counts; opens = tt }, λ d there. absurd there)
  answer-on next s More serves = (serves, λ d there. absurd there)
  answer-on next s Repeat serves = (serves, λ d there. absurd there)
  answer-on next s (Bad why) serves = (serves, λ d there. absurd there)
  answer-on next s (Dropped key) serves = (serves, λ d there. absurd there)

  reply-on : (next : ℕ) (s : SessionState) (h : Header) (payload : List ℕ) (key : Option Key) → Serves g me requests next s → GoesOn g me requests next (reply_part s h payload key)
  unfolding part_added
  reply-on next s h payload (Some key) serves =
      let r = added s.unfinished key h payload in
      answer-on next (record s { unfinished = r.1 }) r.0 (record { at = serves.at; targets = serves.targets; counts = serves.counts; opens = serves.opens })
  reply-on next s h payload None serves = (serves, λ d there. absurd there)

  packet-on : (next : ℕ) (s : SessionState) (call : OpenCall) (d : Datagram) (h : Header) (size : ℕ) (p : Packet) → h.packet ≡ p → Serves g me requests next s → IsToAll call.policy
      → is_for call h ≡ true → header_at d.bytes ≡ Ok (h, size) → GoesOn g me requests next (by_packet s call d h (drop size d.bytes) p)
  packet-on next s call d h size ReqRdy type serves to_all for e =
      absurd (above-plain call.policy to_all
      (subst (λ (n : ℕ). n ≤ 1) (for-policy call h for) (only_plain h (read_is_valid h size d.bytes e) type)))
  packet-on next s call d h size ReplyPacket type serves to_all for e = reply-on next s h (drop size d.bytes) (key_at d.from d.to h) serves
  packet-on next s call d h size Reject type serves to_all for e =
      (record { at = serves.at; targets = serves.targets; counts = serves.counts; opens = tt }, λ d there. absurd there)
  packet-on next s call d h size Req0 type serves to_all for e = (serves, λ d there. absurd there)
  packet-on next s call d h size ReqN type serves to_all for e = (serves, λ d there. absurd there)
  packet-on next s call d h size Feedback type serves to_all for e = (serves, λ d there. absurd there)
  packet-on next s call d h size Ordering type serves to_all for e = (serves, λ d there. absurd there)
  packet-on next s call d h size Recover type serves to_all for e = (serves, λ d there. absurd there)

  read-on : (next : ℕ) (s : SessionState) (call : OpenCall) (d : Datagram) (read : Result (Header × ℕ) HeaderFault) → header_at d.bytes ≡ read → Serves g me requests next s
      → IsToAll call.policy → GoesOn g me requests next (received_as s d call read)
  read-on next s call d (Ok (h, size)) e serves to_all =
      if-on next (is_for call h) _ _ (λ for. packet-on next s call d h size h.packet refl serves to_all for e) (serves, λ d there. absurd there)
  read-on next s call d (Err fault) e serves to_all = (serves, λ d there. absurd there)

  found-on : (next : ℕ) (s : SessionState) (d : Datagram) (found : Option OpenCall) → Serves g me requests next s → OpensOne me requests found
      → GoesOn g me requests next (received_by s d found)
  found-on next s d (Some call) serves opens = read-on next s call d (header_at d.bytes) refl serves opens.0
  found-on next s d None serves opens = (serves, λ d there. absurd there)

  -- Ticks --

  tick-on : (next : ℕ) (s : SessionState) (found : Option OpenCall) → Serves g me requests next s → OpensOne me requests found → GoesOn g me requests next (ticked_by s found)
  unfolding sent_again
  tick-on next s (Some call) serves opens =
      if-on next (nat_lt (call.ticks + 1) s.wait) _ _
      (λ so. (record { at = serves.at; targets = serves.targets; counts = serves.counts; opens = opens }, λ d there. absurd there))
      (if-on next (nat_lt call.sendings s.tries) _ _
      (λ so. (record { at = serves.at; targets = serves.targets; counts = serves.counts; opens = opens }, call-parts s call next serves opens))
      (record { at = serves.at; targets = serves.targets; counts = serves.counts; opens = tt }, λ d there. absurd there))
  tick-on next s None serves opens = (serves, λ d there. absurd there)

  -- Events --

  event-on : (next : ℕ) (s : SessionState) (e : Event) → Serves g me requests next s → GoesOn g me requests next (stepped s e)
  unfolding received ticked
  event-on next s (event.Datagram d) serves = found-on next s d s.open_call serves serves.opens
  event-on next s event.Tick serves = tick-on next s s.open_call serves serves.opens
  event-on next s event.Quiet serves = (serves, λ d there. absurd there)

  due-on : (next : ℕ) (s : SessionState) (b : Bool) → Serves g me requests next s → GoesOn g me requests next (stepped_by s (if b then event.Tick ∷ [] else []))
  due-on next s true serves = event-on next s event.Tick serves
  due-on next s false serves = (serves, λ d there. absurd there)

  -- Talks --

  both-parts : (first rest : List Datagram) → AreParts g requests first → AreParts g requests rest → AreParts g requests (first ++ rest)
  both-parts first rest here more d there =
      elim (in-parts d first rest there) [
        | inl one ↦ here d one
        | inr later ↦ more d later
      ]

  pub all-parts : (next : ℕ) (t : Talk) (steps : List Step) → Serves g me requests next t.session → ((q : Request) → In q (requests_of me next (asked_in steps)) → In q requests)
      → ((call : Asked) → In call (asked_in steps) → IsToAll call.policy) → AreParts g requests (course t steps).sends
  unfolding course asked_in began
  all-parts next t [] serves among to_all = λ d there. absurd there
  all-parts next t (Asks policy body ∷ more) serves among to_all =
      let s = t.session in
      let asked : Asked = record { policy = policy; body = body } in
      let one : In (request_of_call me s.next asked) requests =
      subst (λ (n : ℕ). In (request_of_call me n asked) requests) (sym serves.counts) (among (request_of_call me next asked) (inl refl)) in
      let opens : OpensOne me requests (Some (new_call s policy body)) = (to_all asked (inl refl), one) in
      let same = serves.counts in
      both-parts (sending s.me s.targets (new_call s policy body)) _ (call-parts s (new_call s policy body) next serves opens)
      (all-parts (suc next) (taken t (Asks policy body)).next more
      (record { at = serves.at; targets = serves.targets; counts = omega (arith, same); opens = opens })
      (λ q there. among q (inr there)) (λ call there. to_all call (inr there)))
  all-parts next t (Hears item ∷ more) serves among to_all =
      let on = event-on next t.session (event_of item) serves in
      both-parts (stepped t.session (event_of item)).step.sends _ on.1 (all-parts next (taken t (Hears item)).next more on.0 among to_all)
  all-parts next t (Tells moment ∷ more) serves among to_all =
      let on = due-on next t.session _ serves in
      both-parts (stepped_by t.session (due_at t.ticker moment)).step.sends _ on.1 (all-parts next (taken t (Tells moment)).next more on.0 among to_all)
