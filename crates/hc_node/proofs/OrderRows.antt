-- What the rows on Orders rest on.
use Rattle.std.proofs.Common.{◌≡◌, ℕ, ◌-◌, ◌≤◌, min, true, false, length, refl, sym, subst, arith}
use Rattle.r2_base.specs.Limits.{greatest_number}
use Rattle.r2_base.specs.declared.addr.Addr.{Addr}
use Rattle.hc_log.proofs.Formed.{IsFormed-from_steps}
use Rattle.hc_message.specs.declared.msg.Msg.{Msg}
use Rattle.hc_message.specs.declared.msg.Msg.TheVariants.{Order}
use Rattle.hc_message.specs.Entry.{IsTerm}
use Rattle.hc_message.specs.Message.{AreOrdered, IsValid}
use Rattle.hc_order.specs.Taking.{MayTake, taken, taken_of}
use Rattle.hc_order.proofs.Takings.{takings_are_right}
use Rattle.hc_member.specs.declared.setup.Setup.{Setup}
use Rattle.hc_member.specs.Member.{Member}
use Rattle.hc_member.specs.Orders.{HeardOrder, follows, joins, refusal, refuse, take_or_refuse, take_order}
use Rattle.hc_member.specs.Outcome.{stays}
use Rattle.hc_member.specs.Setup.{IsSetup}
use Rattle.hc_member.specs.Sound.{IsSound}
use Rattle.hc_member.proofs.OrderRows.{follows-parts}
use Rattle.hc_node.specs.Told.{IsOrder, order_term}
use Rattle.hc_node.proofs.ReportRows.{last-fits}

-- what a log has of an Order that is taken isn't past the greatest index
pub taken-fits : (s : Setup) (m : Member) (order : Msg) (fixed : ℕ) → IsSound s m → MayTake m.log m.pool order fixed
    → (taken_of m.log m.pool order fixed).upto ≤ greatest_number
taken-fits s m (Order term leader prev_index prev_term term_start commit via entries) fixed sound may =
    let valid = sound.durable in
    let right =
    takings_are_right m.log m.pool prev_index entries fixed (record { is_log = valid.log; is_pool = sound.pool; apart = sound.apart })
    (record {
      inside = may.1;
      term = term;
      ordered = subst (λ (n : ℕ). AreOrdered prev_index n term entries) (sym may.2) may.0.1;
      fixed_inside = may.3;
      apart = may.4;
    }) in
    let beside = right.beside in
    let limits = (IsFormed-from_steps (taken m.log m.pool prev_index entries fixed).log beside.is_log).limits in
    let most = limits.entries in
    let upto = right.upto in
    omega (arith, upto, most)
taken-fits s m _ fixed sound may = absurd may

-- nor is what a member applied
pub applied-fits : (s : Setup) (m : Member) → IsSound s m → m.applied ≤ greatest_number
applied-fits s m sound =
    let batch = sound.batch in
    let committed = sound.committed in
    let last = last-fits s m sound in
    omega (arith, batch, committed, last)

pub matched-fits : (s : Setup) (m : Member) → IsSound s m → m.matched ≤ greatest_number
matched-fits s m sound =
    let matched = sound.matched in
    let last = last-fits s m sound in
    omega (arith, matched, last)

-- an Order is taken where the entry before it stands in the log, and else refused
pub joining : (s : Setup) (m : Member) (from : Addr) (o : HeardOrder) → joins m.log o.prev_index o.prev_term ≡ true
    → take_or_refuse s m from o ≡ take_order s m from o
joining s m from o e = rw e refl

pub not-joining : (s : Setup) (m : Member) (from : Addr) (o : HeardOrder) → joins m.log o.prev_index o.prev_term ≡ false
    → take_or_refuse s m from o ≡ stays m m (refusal s m o.leader (min (length m.log) (o.prev_index - 1)))
unfolding refuse
not-joining s m from o e = rw e refl

-- the term of a valid Order is a term
pub order-is_term : (order : Msg) → IsOrder order → IsValid order → IsTerm (order_term order)
order-is_term (Order term leader prev_index prev_term term_start commit via entries) is valid = let head = valid.0 in head.own
order-is_term _ is valid = absurd is

-- a member that follows the leader of a term
pub followed-sound : (s : Setup) (m : Member) (term : ℕ) → IsSetup s → IsTerm term → IsSound s m → IsSound s (follows term m)
followed-sound s m term is t sound = let f = follows-parts s is m term t sound in f.sound

pub followed-term : (s : Setup) (m : Member) (term : ℕ) → IsSetup s → IsTerm term → IsSound s m → IsTerm (follows term m).term
followed-term s m term is t sound =
    let f = follows-parts s is m term t sound in
    let valid = (f.sound).durable in
    record { least = omega (arith, t.least, f.high); most = valid.term }
