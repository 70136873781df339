-- The aggregator's turn at any event, and in a group at a datagram that was sent to it.
use Rattle.std.proofs.Common.{◌≡◌, ℕ, zero, suc, ◌+◌, ◌<◌, ◌≤◌, List, [], ◌∷◌, drop, length, map, Option, None, Some, refl, sym, ap, subst, ◌∙◌, arith, inl, inr}
use Rattle.std.specs.Prelude.{All, slice_get}
use Rattle.std.specs.List.{remove}
use Rattle.std.proofs.lemmas.Option.{get_or_from_slice_get, same_Some, slice_get_within}
use Rattle.std.proofs.lemmas.List.Elements.{All-cons, All-get_or, All-head, All-nil, All-tail}
use Rattle.r2_base.specs.declared.addr.Addr.{Addr}
use Rattle.r2_base.specs.declared.datagram.Datagram.{Datagram}
use Rattle.r2_base.specs.declared.event.Event.{Event}
use Rattle.r2_base.specs.declared.event.Event.TheVariants as event
use Rattle.r2_header.specs.Header.{spelling}
use Rattle.r2_frag.specs.declared.class.Class.{Class}
use Rattle.r2_frag.specs.declared.class.Class.TheVariants.{Request as RequestClass, Reply as ReplyClass, Recover as RecoverClass}
use Rattle.r2_frag.specs.declared.part_spec.PartSpec.{PartSpec}
use Rattle.r2_frag.specs.Laws.{FitsHeaders}
use Rattle.r2_frag.specs.Parts.{IsSendable, part_count, part_datagram, part_header, part_type, parts_of}
use Rattle.r2_frag.specs.Replies.{reply_parts, reply_spec}
use Rattle.r2_frag.proofs.PartLaws.{parts_are_of_the_body}
use Rattle.hc_message.specs.declared.msg.Msg.{Msg}
use Rattle.hc_message.specs.declared.msg.Msg.TheVariants.{Order, AggCommit}
use Rattle.hc_message.specs.Message.{IsValid, message_bytes}
use Rattle.hc_packet.specs.Packet.{message_after, message_carried, message_in}
use Rattle.hc_packet.proofs.Packets.{packets_are_read}
use Rattle.hc_member.specs.declared.setup.Setup.{Setup}
use Rattle.hc_member.specs.Sending.{recover_spec}
use Rattle.hc_aggregate.specs.Sound.{IsTally}
use Rattle.hc_aggregate.specs.Tally.{Tally, found, in_term, with_reached}
use Rattle.hc_aggregate.specs.Turn.{AggregatorState, Outcome, Telling, datagram_of, hear_ack, hear_order, nothing, reacted, receive, sent, tell_each, with_tally}
use Rattle.hc_aggregate.proofs.Cases.{of-turn}
use Rattle.hc_aggregate.proofs.Found.{IsFound, found-within}
use Rattle.hc_aggregate.proofs.Tallies.{tally_with_found, tally_with_reached}
use Rattle.hc_aggregate.proofs.Turns.{each-telling, each-told, order-tally, order-term}
use Rattle.hc_rules.specs.Kept.{Kept}
use Rattle.hc_rules.specs.Log.{In}
use Rattle.hc_rules.specs.Message.{Request}
use Rattle.hc_rules.specs.Protocol.{ProtocolState}
use Rattle.hc_rules.specs.Runs.{after_rules}
use Rattle.hc_rules.proofs.RuleLists.{rules_keep}
use Rattle.hc_run.specs.Group.{Aggregator, Group, IsGroup, Receiver, setup_of}
use Rattle.hc_run.specs.State.{GroupState}
use Rattle.hc_run.specs.Events.{Deliver, WasSentTo}
use Rattle.hc_run.specs.Aggregating.{IsAggregatorSteps, IsTold, IsToldTo}
use Rattle.hc_run.specs.AggregatorTurns.{AggregatorStands, AggregatorTurnsAreRules, IsAggregatorTurn}
use Rattle.hc_run.specs.Backed.{IsBackedDatagram, IsRecoveryPart, IsMadeReplyPart, IsRequestPart}
use Rattle.hc_run.specs.Held.{IsAsked}
use Rattle.hc_run.specs.Shows.{Shows}
use Rattle.hc_run.specs.StepLaws.{IsStepRules, LeadsTo}
use Rattle.hc_run.specs.Steps.{aggregates, comes_to, delivered, request_spec, step}
use Rattle.hc_run.proofs.Aggregating.{aggregating_rules}
use Rattle.hc_run.proofs.Items.{holds-in}
use Rattle.hc_run.proofs.Places.{leads-stays}
use Rattle.hc_run.proofs.Receiving.{about-headers, about-sendable, fits, is-at, reply-sendable, sendable-by}
use Rattle.hc_run.proofs.SentDatagrams.{message-fits}
use Rattle.hc_run.proofs.Sparing.{aggregators_spare}
use Rattle.hc_run.proofs.Stretches.{leads-counted}

-- What it hears --

-- a part of a body carries no message by itself
part-carried : (c : Class) (n : ℕ) (payload : List ℕ) → message_carried (part_type c n) payload ≡ None
part-carried RequestClass zero payload = refl
part-carried RequestClass (suc n) payload = refl
part-carried ReplyClass n payload = refl
part-carried RecoverClass n payload = refl

part-silent : (spec : PartSpec) (body : List ℕ) (n : ℕ) → IsSendable spec body → FitsHeaders spec → n < part_count body → message_in (part_datagram spec body n).bytes ≡ None
unfolding message_in part_header
part-silent spec body n sendable fit less =
    let part = (parts_are_of_the_body spec body sendable fit).1 n less in
    let bytes = (part_datagram spec body n).bytes in
    ap (message_after bytes) part.read ∙ part-carried spec.key.class n (drop (length (spelling (part_header spec (part_count body) n))) bytes)

parts-silent : (spec : PartSpec) (body : List ℕ) (d : Datagram) → IsSendable spec body → FitsHeaders spec → In d (parts_of spec body) → message_in d.bytes ≡ None
parts-silent spec body d sendable fit there =
    let found = is-at d (parts_of spec body) there in
    let laws = parts_are_of_the_body spec body sendable fit in
    let inside = found.inside in
    let count = laws.0 in
    let less : found.place < part_count body = omega (arith, inside, count) in
    let part = laws.1 found.place less in
    let same : part_datagram spec body found.place ≡ d = same_Some _ _ (sym part.placed ∙ found.there) in
    ap (λ (x : Datagram). message_in x.bytes) (sym same) ∙ part-silent spec body found.place sendable fit less

module _ (s : Setup) (w : ProtocolState) (kept : Kept w) (asked : All IsAsked w.table) where
  request-silent : (d : Datagram) → IsRequestPart w.table d → message_in d.bytes ≡ None
  request-silent d is =
      let q = is.request in
      let spec = request_spec q d.to in
      let requests = kept.requests in
      let distinct = requests.table_is_distinct in
      let asks = holds-in IsAsked q w.table asked is.sent in
      parts-silent spec q.body d (sendable-by s w q distinct is.sent asks [] (All-nil _) d.to q.kind refl asks.asks) (fits s w q distinct is.sent asks [] (All-nil _) d.to) is.part

  recovery-silent : (d : Datagram) → IsRecoveryPart w.table d → message_in d.bytes ≡ None
  recovery-silent d is =
      let spec = recover_spec d.from d.to is.rid in
      let requests = kept.requests in
      let distinct = requests.table_is_distinct in
      parts-silent spec (message_bytes is.message) d
      (about-sendable s w distinct asked [] (All-nil _) d.from d.to is.rid is.message is.valid is.about)
      (about-headers s w distinct asked [] (All-nil _) d.from d.to is.rid is.message is.about) is.part

  reply-silent : (d : Datagram) → IsMadeReplyPart w d → message_in d.bytes ≡ None
  unfolding reply_parts
  reply-silent d is =
      let r = is.reply in
      let fit = is.fits in
      parts-silent (reply_spec d.from r.rid r.policy) r.payload d (reply-sendable d.from r is.right) (record { id = fit.id; client = tt }) is.part

  silent : (d : Datagram) → message_in d.bytes ≡ None → IsToldTo s.members w d.to (message_in d.bytes)
  silent d none = subst (IsToldTo s.members w d.to) (sym none) tt

  -- what is heard of a datagram that was sent is a message that was
  told-of : (d : Datagram) → IsBackedDatagram s.members w d → IsToldTo s.members w d.to (message_in d.bytes)
  told-of d (inl is) = silent d (request-silent d is)
  told-of d (inr (inl is)) =
      let read : message_in d.bytes ≡ Some is.message = ap message_in is.same ∙ packets_are_read is.message is.fits is.valid in
      subst (IsToldTo s.members w d.to) (sym read) (is.valid, is.sent)
  told-of d (inr (inr (inl is))) = silent d (recovery-silent d is)
  told-of d (inr (inr (inr is))) = silent d (reply-silent d is)

valid-of : (members : List Addr) (w : ProtocolState) (to : Addr) (heard : Option Msg) (m : Msg) → IsToldTo members w to heard → heard ≡ Some m → IsValid m
valid-of members w to (Some n) m told same = subst IsValid (let is : n ≡ m = cc in is) told.0
valid-of members w to None m told same = absurd cc

-- What it tells --

abbrev IsValidTelling : Telling → Type 0
IsValidTelling x = IsValid x.message

commit-valid : (size : ℕ) (t : Tally) → 1 ≤ t.term → IsTally size t → (index : ℕ) → IsFound t index → (to : Addr) → IsValidTelling (record { to = to; message = AggCommit t.term index })
commit-valid size t least is index found to = (record { least = least; most = is.term }, found-within size t index is found)

-- a turn at valid messages leaves a tally of the group, and tells valid ones
abbrev GoesWell : List Addr → Outcome → Type 0
GoesWell members o = IsTally (length members) o.tally × All IsValidTelling o.tells

goes-well : (members : List Addr) (t : Tally) (d : Datagram) → ((m : Msg) → message_in d.bytes ≡ Some m → IsValid m) → IsTally (length members) t
    → GoesWell members (reacted members t (event.Datagram d))
unfolding hear_order hear_ack
goes-well members t d each is = of-turn (GoesWell members) members t (event.Datagram d) (is, All-nil IsValidTelling) (
    λ e m same carries.
    let here : d ≡ e = cc in
    let valid_m = each m (subst (λ (x : Datagram). message_in x.bytes ≡ Some m) (sym here) carries) in
    record {
      ignored = (is, All-nil IsValidTelling);
      ordered = λ term leader prev_index prev_term term_start commit via entries order takes.
          let next = with_reached (in_term t term leader term_start) leader (prev_index + length entries) in
          let valid = subst IsValid order valid_m in
          let message = Order term leader prev_index prev_term term_start commit via entries in
          let is' = order-tally members t e.from term leader prev_index prev_term term_start commit via entries is valid takes in
          let term' = order-term members t e.from term leader term_start (prev_index + length entries) via takes in (
            tally_with_found (length members) next (found next) is',
            each-told IsValidTelling members (tell_each (remove members leader) message) next (each-telling IsValidTelling (remove members leader) message (λ member. valid))
                (commit-valid (length members) next (omega (arith, term', valid.0.own.least)) is'),
          );
      acknowledged = λ term member index applied ack takes.
          let next = with_reached t member index in
          let valid = subst IsValid ack valid_m in
          let is' = tally_with_reached (length members) t member index takes.member valid.2 is in (
            tally_with_found (length members) next (found next) is',
            each-told IsValidTelling members [] next (All-nil IsValidTelling) (commit-valid (length members) next (omega (arith, takes.current, valid.0.least)) is'),
          );
    }
    )

-- the datagrams of what is told are backed
tells-backed : (members : List Addr) (x : ProtocolState) (me : Addr) (tells : List Telling) → Kept x → All IsAsked x.table → All IsValidTelling tells → All (IsTold members x) tells
    → All (IsBackedDatagram members x) (map (datagram_of me) tells)
tells-backed members x me [] kept asked valid told = All-nil (IsBackedDatagram members x)
tells-backed members x me (y ∷ tells) kept asked valid told =
    let right = All-head IsValidTelling y tells valid in
    let sent = All-head (IsTold members x) y tells told in
    All-cons (IsBackedDatagram members x) (datagram_of me y) (map (datagram_of me) tells)
    (inr (inl (record { message = y.message; valid = right; fits = message-fits members x y.to y.message kept asked right sent; same = refl; sent = sent })))
    (tells-backed members x me tells kept asked (All-tail IsValidTelling y tells valid) (All-tail (IsTold members x) y tells told))

-- The turn --

-- what an aggregator makes of a message
reacts : (members : List Addr) (t : Tally) (d : Datagram) → reacted members t (event.Datagram d) ≡ receive members t d.from (message_in d.bytes)
unfolding reacted
reacts members t d = refl

-- a setup of a member of these
abbrev setup_with : List Addr → Setup
setup_with members = record { members = members; me = 0; aggregator = None; bounds = []; election = 1 }

-- a turn at a datagram that was sent
datagram-turn : (w : ProtocolState) (a : AggregatorState) (d : Datagram) → AggregatorStands w a → IsBackedDatagram a.members w d → IsAggregatorTurn w a (event.Datagram d)
datagram-turn w a d stands backed =
    let setup = setup_with a.members in
    let t = a.tally in
    let o = reacted a.members t (event.Datagram d) in
    let told = told-of setup w stands.kept stands.asked d backed in
    let well = goes-well a.members t d (λ m same. valid-of a.members w d.to (message_in d.bytes) m told same) stands.sound in
    let did : IsAggregatorSteps a.members w o =
    subst (λ (y : Outcome). IsAggregatorSteps a.members w y) (sym (reacts a.members t d))
    (aggregating_rules a.members w t d.from d.to (message_in d.bytes) stands.kept stands.shown told) in
    let are = did.are in
    let rules = did.rules in
    let x = after_rules w rules in
    let both = aggregators_spare setup w rules stands.kept are.own are.allowed in
    let kept = rules_keep w rules stands.kept are.allowed in
    let asked = subst (λ (l : List Request). All IsAsked l) (sym both.1) stands.asked in
    record {
      rules = rules;
      are =
          record {
            own = are.own;
            allowed = are.allowed;
            stands = record { kept = kept; asked = asked; shown = are.shown; sound = well.0 };
            backed = tells-backed a.members x a.me o.tells kept asked well.1 are.backed;
            passed = are.passed;
            reports = are.reports;
          };
    }

-- nothing comes
silent-turn : (w : ProtocolState) (a : AggregatorState) (e : Event) → AggregatorStands w a → reacted a.members a.tally e ≡ nothing a.tally → IsAggregatorTurn w a e
silent-turn w a e stands none =
    record {
      rules = [];
      are =
          record {
            own = tt;
            allowed = tt;
            stands = subst (λ (o : Outcome). AggregatorStands w (with_tally a o.tally)) (sym none) stands;
            backed = subst (λ (o : Outcome). All (IsBackedDatagram a.members w) (map (datagram_of a.me) o.tells)) (sym none) (All-nil (IsBackedDatagram a.members w));
            passed = refl;
            reports = refl;
          };
    }

pub aggregator_turns : AggregatorTurnsAreRules
unfolding reacted
aggregator_turns w a (event.Datagram d) stands came = datagram-turn w a d stands came
aggregator_turns w a event.Tick stands came = silent-turn w a event.Tick stands refl
aggregator_turns w a event.Quiet stands came = silent-turn w a event.Quiet stands refl

-- Groups --

pub aggregates-becomes : (g : Group) (w : ProtocolState) (s : GroupState) (d : Datagram) → IsGroup g → Shows g w s → IsBackedDatagram g.members w d
    → LeadsTo g w (aggregates g d.to (event.Datagram d) s)
aggregates-becomes g w s d is shows backed =
    let a : AggregatorState = record { me = d.to; members = g.members; tally = s.tally } in
    let group = shows.group in
    let tally = shows.tally in
    let turn = aggregator_turns w a (event.Datagram d)
    (record {
      kept = shows.kept;
      asked = subst (λ (l : List Request). All IsAsked l) (sym shows.table) shows.asked;
      shown = record { some = is.some; size = group.size; each = tally.each; tied = shows.aggregator };
      sound = tally;
    })
    backed in
    let are = turn.are in
    let both = aggregators_spare (setup_of g 0) w turn.rules shows.kept are.own are.allowed in
    let after = are.stands in
    let shown = after.shown in
    leads-stays g w s (aggregates g d.to (event.Datagram d) s) (sent a (event.Datagram d)) turn.rules shows
    (record {
      allowed = are.allowed;
      spared = both.0;
      replicas = refl;
      aggregator = shown.tied;
      tally = after.sound;
      table = both.1 ∙ shows.table;
      asked = shows.asked;
      passed = are.passed ∙ shows.passed;
      reports = are.reports ∙ shows.reports;
      replied = refl;
      sent = are.backed;
      datagrams = refl;
    })

pub aggregator-step : (g : Group) (w : ProtocolState) (s : GroupState) (number : ℕ) → IsGroup g → Shows g w s → WasSentTo g s number Aggregator → IsStepRules g w s (Deliver number)
unfolding step
aggregator-step g w s number is shows sent =
    let d = sent.datagram in
    let backed =
    subst (IsBackedDatagram g.members w) (get_or_from_slice_get s.datagrams number d d sent.sent)
    (All-get_or (IsBackedDatagram g.members w) s.datagrams number d (slice_get_within s.datagrams number d sent.sent) shows.datagrams) in
    let t = delivered g (slice_get s.datagrams number) s in
    leads-counted g w t (t.events + 1) t.crashes
    (subst (λ (found : Option Datagram). LeadsTo g w (delivered g found s)) (sym sent.sent)
    (subst (λ (to : Receiver). LeadsTo g w (comes_to g to d s)) (sym sent.to) (aggregates-becomes g w s d is shows backed)))
