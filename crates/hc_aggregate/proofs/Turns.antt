-- Each turn leaves a sound aggregator, and sends valid messages, an Order to others than its leader.
use Rattle.std.proofs.Common.{◌≡◌, ◌≢◌, ◌≤◌, ◌<◌, ◌+◌, ℕ, suc, Bool, true, false, List, [], take, drop, get_or, length, Option, Some, None, refl, sym, ap, ◌∙◌, subst, arith}
use Rattle.std.specs.Prelude.{All, AllPairs, nat_lt}
use Rattle.std.specs.List.{remove}
use Rattle.std.proofs.lemmas.List.{get_or-drop, get_or-take, length-drop, length-take}
use Rattle.std.proofs.lemmas.List.Elements.{All-append, All-from_get_or, All-get_or, All-map, All-nil}
use Rattle.r2_base.specs.declared.addr.Addr.{Addr}
use Rattle.r2_base.specs.declared.datagram.Datagram.{Datagram}
use Rattle.r2_base.specs.declared.entry.Entry.{Entry}
use Rattle.r2_base.specs.declared.event.Event.{Event}
use Rattle.r2_base.specs.declared.event.Event.TheVariants as event
use Rattle.hc_message.specs.declared.msg.Msg.{Msg}
use Rattle.hc_message.specs.declared.msg.Msg.TheVariants.{Order, AggCommit}
use Rattle.hc_message.specs.Message.{IsValid}
use Rattle.hc_packet.specs.Laws.{most_packet_bytes}
use Rattle.hc_packet.specs.Packet.{message_in, message_packet}
use Rattle.hc_packet.proofs.Packets.{packets_are_short, what_is_read_is_a_packet}
use Rattle.std.proofs.lemmas.Bool.{ltb-false}
use Rattle.hc_aggregate.specs.Group.{address_of}
use Rattle.hc_aggregate.specs.Laws.{GoesElsewhere, HasBytes, HasBytesOf, IsSendable, StaySound, OrdersGoElsewhere, OrdersStayTheSame, TurnsSendWell, told}
use Rattle.hc_aggregate.specs.Sound.{IsTally}
use Rattle.hc_aggregate.specs.Tally.{Tally, found, in_term, with_reached}
use Rattle.hc_aggregate.specs.Turn.{Telling, commit_told, counts, datagram_of, hear_ack, hear_order, reacted, tell_each}
use Rattle.hc_aggregate.proofs.Cases.{TakesOrder, carried-valid, of-turn}
use Rattle.hc_aggregate.proofs.Found.{IsFound, found-is, found-within}
use Rattle.hc_aggregate.proofs.Tallies.{sound_begin, tally_of_order, tally_with_found, tally_with_reached}

-- a telling to read past the end of a list
no-telling : Telling
no-telling = record { to = record { ip = 0; port = 0 }; message = AggCommit 1 0 }

-- the numbers of an Order that is taken are such as a tally may have
pub order-tally : (members : List Addr) (t : Tally) (from : Addr) (term leader prev_index prev_term term_start commit : ℕ) (via : Bool) (entries : List Entry)
    → IsTally (length members) t → IsValid (Order term leader prev_index prev_term term_start commit via entries) → TakesOrder members t from term leader via
    → IsTally (length members) (with_reached (in_term t term leader term_start) leader (prev_index + length entries))
order-tally members t from term leader prev_index prev_term term_start commit via entries is valid takes =
    tally_of_order (length members) t term leader term_start (prev_index + length entries) takes.member valid.0.own.most valid.0.start.least valid.1.room is

-- a turn leaves a tally of the group
pub stays-tally : (members : List Addr) (t : Tally) (happens : Event) → HasBytes happens → IsTally (length members) t → IsTally (length members) (reacted members t happens).tally
unfolding hear_order hear_ack
stays-tally members t happens are is = of-turn (λ o. IsTally (length members) o.tally) members t happens is (
    λ d m same carries. record {
      ignored = is;
      ordered = λ term leader prev_index prev_term term_start commit via entries order takes.
          let next = with_reached (in_term t term leader term_start) leader (prev_index + length entries) in
          tally_with_found (length members) next (found next)
          (order-tally members t d.from term leader prev_index prev_term term_start commit via entries is (subst IsValid order (carried-valid happens d m are same carries)) takes);
      acknowledged = λ term member index applied ack takes.
          let next = with_reached t member index in
          let valid = subst IsValid ack (carried-valid happens d m are same carries) in
          tally_with_found (length members) next (found next) (tally_with_reached (length members) t member index takes.member valid.2 is);
    }
    )

pub aggregators_stay_sound : StaySound
aggregators_stay_sound = record {
  begins = sound_begin;
  stays = λ s happens are is. record { group = is.group; tally = stays-tally s.members s.tally happens are is.tally };
}

-- the same holds of what is told to each
pub each-telling : (P : Telling → Type 0) (to : List Addr) (m : Msg) → ((member : Addr) → P (record { to = member; message = m })) → All P (tell_each to m)
each-telling P to m holds =
    All-map P (λ (member : Addr). record { to = member; message = m }) to (All-from_get_or (λ member. P (record { to = member; message = m })) to (record { ip = 0; port = 0 }) (λ i within. holds (get_or to i (record { ip = 0; port = 0 }))))

-- and of what is found to be committed
each-commit : (P : Telling → Type 0) (members : List Addr) (term : ℕ) (t : Tally) (o : Option ℕ) → found t ≡ o
    → ((index : ℕ) → IsFound t index → (member : Addr) → P (record { to = member; message = AggCommit term index })) → All P (commit_told members term o)
each-commit P members term t (Some index) is holds = each-telling P members (AggCommit term index) (holds index (found-is t index is))
each-commit P members term t None is holds = All-nil P

-- what holds of what is told first and of what is found to be committed holds of all that is told
pub each-told : (P : Telling → Type 0) (members : List Addr) (first : List Telling) (t : Tally) → All P first
    → ((index : ℕ) → IsFound t index → (member : Addr) → P (record { to = member; message = AggCommit t.term index }))
    → All P (counts members first t).tells
each-told P members first t before holds = All-append P first (commit_told members t.term (found t)) before (each-commit P members t.term t (found t) refl holds)

-- an aggregator's word is a valid message
commit-sendable : (size : ℕ) (t : Tally) → 1 ≤ t.term → IsTally size t → (index : ℕ) → IsFound t index → (member : Addr) → IsSendable (record { to = member; message = AggCommit t.term index })
commit-sendable size t least is index found member =
    record { valid = (record { least = least; most = is.term }, found-within size t index is found); whole = refl }

-- the term of an Order that is taken is counted then
pub in-term : (t : Tally) (term leader term_start : ℕ) (higher : Bool) → nat_lt t.term term ≡ higher → t.term ≤ term → (in_term t term leader term_start).term ≡ term
in-term t term leader term_start true e current = rw e refl
in-term t term leader term_start false e current = rw e (omega (arith, current, ltb-false t.term term e))

pub order-term : (members : List Addr) (t : Tally) (from : Addr) (term leader term_start last : ℕ) (via : Bool) → TakesOrder members t from term leader via
    → (with_reached (in_term t term leader term_start) leader last).term ≡ term
order-term members t from term leader term_start last via takes = in-term t term leader term_start (nat_lt t.term term) refl takes.current

each-sendable : (members : List Addr) (t : Tally) (happens : Event) → HasBytes happens → IsTally (length members) t → All IsSendable (reacted members t happens).tells
unfolding hear_order hear_ack
each-sendable members t happens are is = of-turn (λ o. All IsSendable o.tells) members t happens (All-nil IsSendable) (
    λ d m same carries. record {
      ignored = All-nil IsSendable;
      ordered = λ term leader prev_index prev_term term_start commit via entries order takes.
          let next = with_reached (in_term t term leader term_start) leader (prev_index + length entries) in
          let valid = subst IsValid order (carried-valid happens d m are same carries) in
          let message = Order term leader prev_index prev_term term_start commit via entries in
          let is' = order-tally members t d.from term leader prev_index prev_term term_start commit via entries is valid takes in
          let term' = order-term members t d.from term leader term_start (prev_index + length entries) via takes in
          each-told IsSendable members (tell_each (remove members leader) message) next (each-telling IsSendable (remove members leader) message (λ member. record { valid = valid; whole = refl }))
          (commit-sendable (length members) next (omega (arith, term', valid.0.own.least)) is');
      acknowledged = λ term member index applied ack takes.
          let next = with_reached t member index in
          let valid = subst IsValid ack (carried-valid happens d m are same carries) in
          each-told IsSendable members [] next (All-nil IsSendable)
          (commit-sendable (length members) next (omega (arith, takes.current, valid.0.least)) (tally_with_reached (length members) t member index takes.member valid.2 is));
    }
    )

pub turns_send_well : TurnsSendWell
turns_send_well s happens are is =
    let each = each-sendable s.members s.tally happens are is.tally in
    record {
      each = each;
      short = All-map (λ (d : Datagram). length d.bytes ≤ most_packet_bytes) (datagram_of s.me) (told s happens)
          (All-from_get_or (λ (x : Telling). length (message_packet x.message) ≤ most_packet_bytes) (told s happens) no-telling (λ i within. let x = All-get_or IsSendable (told s happens) i no-telling within each in packets_are_short _ x.valid x.whole));
    }

-- the other members have other addresses
remove-other : (members : List Addr) (leader : ℕ) → leader < length members → AllPairs (λ a b. a ≢ b) members
    → All (λ to. to ≢ address_of members leader) (remove members leader)
remove-other members leader within distinct =
    let none : Addr = record { ip = 0; port = 0 } in
    All-append (λ to. to ≢ address_of members leader) (take leader members) (drop (suc leader) members)
    (All-from_get_or (λ to. to ≢ address_of members leader) (take leader members) none (
    λ i below.
    let least : i < leader = omega (arith, below, length-take leader members) in
    rw (get_or-take leader members i none least) (distinct i leader none least within)
    ))
    (All-from_get_or (λ to. to ≢ address_of members leader) (drop (suc leader) members) none (
    λ i below.
    let here : suc leader + i < length members = omega (arith, below, length-drop (suc leader) members) in
    rw (get_or-drop (suc leader) members i none) (λ same. distinct leader (suc leader + i) none (omega arith) here (sym same))
    ))

pub orders_go_elsewhere : OrdersGoElsewhere
unfolding hear_order hear_ack
orders_go_elsewhere s happens is =
    let P : Telling → Type 0 = λ x. GoesElsewhere s.members x.to x.message in
    of-turn (λ o. All P o.tells) s.members s.tally happens (All-nil P) (
    λ d m same carries. record {
      ignored = All-nil P;
      ordered = λ term leader prev_index prev_term term_start commit via entries order takes.
          each-told P s.members _ (with_reached (in_term s.tally term leader term_start) leader (prev_index + length entries))
          (All-map P _ (remove s.members leader) (remove-other s.members leader takes.member is.group.distinct)) (λ index found member. tt);
      acknowledged = λ term member index applied ack takes. each-told P s.members [] (with_reached s.tally member index) (All-nil P) (λ index found to. tt);
    }
    )

pub orders_stay_the_same : OrdersStayTheSame
unfolding hear_order hear_ack
orders_stay_the_same s d are =
    let P : Telling → Type 0 = λ x. HasBytesOf d.bytes x.message in
    of-turn (λ o. All P o.tells) s.members s.tally (event.Datagram d) (All-nil P) (
    λ e m same carries. record {
      ignored = All-nil P;
      ordered = λ term leader prev_index prev_term term_start commit via entries order takes.
          let here : e ≡ d = cc in
          let packet = what_is_read_is_a_packet m d.bytes are (subst (λ (x : Datagram). message_in x.bytes ≡ Some m) here carries) in
          let bytes = sym (packet.same ∙ ap message_packet order) in
          each-told P s.members _ (with_reached (in_term s.tally term leader term_start) leader (prev_index + length entries))
          (each-telling P (remove s.members leader) _ (λ member. bytes)) (λ index found member. tt);
      acknowledged = λ term member index applied ack takes. each-told P s.members [] (with_reached s.tally member index) (All-nil P) (λ index found to. tt);
    }
    )
