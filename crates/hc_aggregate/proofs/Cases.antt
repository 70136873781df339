-- The cases of a turn: nothing happens, or an Order or an Ack is taken.
use Rattle.std.proofs.Common.{◌≡◌, ◌≤◌, ◌<◌, ◌+◌, ℕ, Bool, true, false, List, length, Option, Some, None, refl, subst}
use Rattle.std.specs.Prelude.{◌&&◌, nat_le, nat_lt, if◌then◌else◌}
use Rattle.std.proofs.lemmas.Bool.{and_parts, eqb-true, leb-true, ltb-true}
use Rattle.r2_base.specs.declared.addr.Addr.{Addr}
use Rattle.r2_base.specs.declared.datagram.Datagram.{Datagram}
use Rattle.r2_base.specs.declared.entry.Entry.{Entry}
use Rattle.r2_base.specs.declared.event.Event.{Event}
use Rattle.r2_base.specs.declared.event.Event.TheVariants as event
use Rattle.r2_base.specs.Names.{same_addr}
use Rattle.hc_message.specs.declared.msg.Msg.{Msg}
use Rattle.hc_message.specs.declared.msg.Msg.TheVariants.{VoteReq, Vote, Order, Ack, Nack, AggCommit, RecoverAsk, RecoverBody}
use Rattle.hc_message.specs.Message.{IsValid}
use Rattle.hc_packet.specs.Packet.{message_in}
use Rattle.hc_packet.proofs.Packets.{what_is_read_is_a_packet}
use Rattle.hc_aggregate.specs.Group.{address_of, is_from_member}
use Rattle.hc_aggregate.specs.Tally.{Tally}
use Rattle.hc_aggregate.specs.Turn.{Outcome, hear, hear_ack, hear_order, nothing, reacted, receive, takes_ack, takes_order}
use Rattle.hc_aggregate.specs.Laws.{HasBytes}

-- an Order is taken
pub record TakesOrder (members : List Addr) (t : Tally) (sender : Addr) (term leader : ℕ) (through : Bool) : Type 0 where
  pub via : through ≡ true
  pub from : is_from_member members sender leader ≡ true
  pub member : leader < length members
  pub current : t.term ≤ term

-- an Ack is taken
pub record TakesAck (members : List Addr) (t : Tally) (sender : Addr) (term number : ℕ) : Type 0 where
  pub from : is_from_member members sender number ≡ true
  pub member : number < length members
  pub current : term ≡ t.term

pub from-member : (members : List Addr) (from : Addr) (member : ℕ) → is_from_member members from member ≡ true → member < length members
from-member members from member is = ltb-true member (length members) (and_parts (nat_lt member (length members)) (same_addr from (address_of members member)) is).0

pub order-taken : (members : List Addr) (t : Tally) (from : Addr) (term leader : ℕ) (via : Bool) → takes_order members t from term leader via ≡ true
    → TakesOrder members t from term leader via
order-taken members t from term leader via takes =
    let outer = and_parts (via && is_from_member members from leader) (nat_le t.term term) takes in
    let inner = and_parts via (is_from_member members from leader) outer.0 in
    record { via = inner.0; from = inner.1; member = from-member members from leader inner.1; current = leb-true t.term term outer.1 }

pub ack-taken : (members : List Addr) (t : Tally) (from : Addr) (term member : ℕ) → takes_ack members t from term member ≡ true → TakesAck members t from term member
ack-taken members t from term member takes =
    let parts = and_parts (is_from_member members from member) _ takes in
    record { from = parts.0; member = from-member members from member parts.0; current = eqb-true term t.term parts.1 }

-- what holds of each way that a message may go
pub record OfEachWay (P : Outcome → Type 0) (members : List Addr) (t : Tally) (from : Addr) (m : Msg) : Type 0 where
  pub ignored : P (nothing t)
  pub ordered : (term leader prev_index prev_term term_start commit : ℕ) (via : Bool) (entries : List Entry)
      → m ≡ Order term leader prev_index prev_term term_start commit via entries → TakesOrder members t from term leader via
      → P (hear_order members t (Order term leader prev_index prev_term term_start commit via entries) term leader term_start (prev_index + length entries))
  pub acknowledged : (term member index applied : ℕ) → m ≡ Ack term member index applied → TakesAck members t from term member → P (hear_ack members t member index)

if-taken : (P : Outcome → Type 0) (test : Bool) (x y : Outcome) → (test ≡ true → P x) → P y → P (if test then x else y)
if-taken P true x y taken other = taken refl
if-taken P false x y taken other = other

of-message : (P : Outcome → Type 0) (members : List Addr) (t : Tally) (from : Addr) (m : Msg) → OfEachWay P members t from m → P (hear members t from m)
of-message P members t from (Order term leader prev_index prev_term term_start commit via entries) each =
    if-taken P (takes_order members t from term leader via) _ (nothing t)
    (λ takes. each.ordered term leader prev_index prev_term term_start commit via entries refl (order-taken members t from term leader via takes)) each.ignored
of-message P members t from (Ack term member index applied) each =
    if-taken P (takes_ack members t from term member) _ (nothing t)
    (λ takes. each.acknowledged term member index applied refl (ack-taken members t from term member takes)) each.ignored
of-message P members t from (VoteReq a b c d) each = each.ignored
of-message P members t from (Vote a b c) each = each.ignored
of-message P members t from (Nack a b c) each = each.ignored
of-message P members t from (AggCommit a b) each = each.ignored
of-message P members t from (RecoverAsk a) each = each.ignored
of-message P members t from (RecoverBody a b) each = each.ignored

of-received : (P : Outcome → Type 0) (members : List Addr) (t : Tally) (from : Addr) (o : Option Msg) → P (nothing t)
    → ((m : Msg) → o ≡ Some m → OfEachWay P members t from m) → P (receive members t from o)
of-received P members t from (Some m) ignored each = of-message P members t from m (each m refl)
of-received P members t from None ignored each = ignored

-- what holds of nothing, and of each way of a message that a datagram carries, holds of a turn
pub of-turn : (P : Outcome → Type 0) (members : List Addr) (t : Tally) (happens : Event) → P (nothing t)
    → ((d : Datagram) (m : Msg) → happens ≡ event.Datagram d → message_in d.bytes ≡ Some m → OfEachWay P members t d.from m) → P (reacted members t happens)
unfolding reacted
of-turn P members t (event.Datagram d) ignored each = of-received P members t d.from (message_in d.bytes) ignored (λ m carries. each d m refl carries)
of-turn P members t event.Tick ignored each = ignored
of-turn P members t event.Quiet ignored each = ignored

-- a message that a datagram of bytes carries is valid
pub carried-valid : (happens : Event) (d : Datagram) (m : Msg) → HasBytes happens → happens ≡ event.Datagram d → message_in d.bytes ≡ Some m → IsValid m
carried-valid happens d m are is carries = (what_is_read_is_a_packet m d.bytes (subst HasBytes is are) carries).valid
