-- A turn by its two halves, and what it prints.
use Rattle.std.proofs.Common.{◌≡◌, List, ◌++◌, Option, None, refl, sym, ap, subst, ◌∙◌, append_assoc}
use Rattle.std.specs.List.{flat_map}
use Rattle.std.proofs.lemmas.List.Concat.{flat_map-append}
use Rattle.r2_base.specs.declared.datagram.Datagram.{Datagram}
use Rattle.r2_base.specs.declared.event.Event.{Event}
use Rattle.hc_log.specs.declared.record.Record.{Record}
use Rattle.hc_log.specs.Durable.{State}
use Rattle.hc_member.specs.declared.setup.Setup.{Setup}
use Rattle.hc_member.specs.Finish.{finished}
use Rattle.hc_member.specs.Laws.{IsStored}
use Rattle.hc_member.specs.Member.{Member, durable_of}
use Rattle.hc_member.specs.Sending.{datagrams_of, datagrams_of_all}
use Rattle.hc_member.specs.Turn.{Reacted, reacted, turned}
use Rattle.hc_member.proofs.Progress.{finished-durable}
use Rattle.cmd_script.specs.Printed.{out_text}
use Rattle.cmd_replay.specs.Printed.{stored_text, turn_text}
use Rattle.cmd_replay.specs.Script.{batch_text, reacted_text}

-- what a turn prints may be printed in two pieces
turn_text-append : (stored : Option Record) (first second : List Datagram) → turn_text stored (first ++ second) ≡ turn_text stored first ++ turn_text None second
unfolding turn_text
turn_text-append stored first second =
    ap (λ x. stored_text stored ++ x) (flat_map-append out_text first second) ∙ sym (append_assoc (stored_text stored) (flat_map out_text first) (flat_map out_text second))

pub two_pieces : (stored : Option Record) (first second a b : List Datagram) → a ≡ first → b ≡ second
    → turn_text stored (first ++ second) ≡ turn_text stored a ++ turn_text None b
two_pieces stored first second a b a_is b_is =
    turn_text-append stored first second
    ∙ ap (λ (x : List Datagram). turn_text stored x ++ turn_text None second) (sym a_is)
    ∙ ap (λ (x : List Datagram). turn_text stored a ++ turn_text None x) (sym b_is)

-- the text of what was stored and sent
pub text-of : (s : Setup) (t : Reacted) (stored : Option Record) (sends : List Datagram) → stored ≡ t.stored → sends ≡ datagrams_of_all s t.sends
    → turn_text stored sends ≡ reacted_text s t
text-of s t stored sends a b = ap (λ (x : Option Record). turn_text x sends) a ∙ ap (turn_text t.stored) b

-- a turn is what is pending, and then the reaction
pub turned-is : (s : Setup) (m : Member) (event : Event) → turned s m event ≡ (let t = reacted s (finished s m).member event in record { member = t.member; stored = t.stored; sends = (finished s m).sends ++ t.sends })
unfolding turned
turned-is s m event = refl

-- and its datagrams are those of both
pub turned-datagrams : (s : Setup) (m : Member) (event : Event) → datagrams_of_all s (turned s m event).sends
    ≡ datagrams_of_all s (finished s m).sends ++ datagrams_of_all s (reacted s (finished s m).member event).sends
unfolding turned
turned-datagrams s m event = flat_map-append (datagrams_of s) (finished s m).sends (reacted s (finished s m).member event).sends

-- what it stores is the change of the durable state
pub turned-stores : (s : Setup) (m : Member) (event : Event) (stored : Option Record)
    → IsStored (durable_of (finished s m).member) stored (durable_of (reacted s (finished s m).member event).member)
    → IsStored (durable_of m) stored (durable_of (turned s m event).member)
unfolding turned
turned-stores s m event stored is =
    subst (λ (d : State). IsStored d stored (durable_of (reacted s (finished s m).member event).member)) (finished-durable s m) is

-- the text of one batch
pub batch_text-of : (s : Setup) (m : Member) (sends : List Datagram) → sends ≡ datagrams_of_all s (finished s m).sends → turn_text None sends ≡ batch_text s m
unfolding batch_text
batch_text-of s m sends e = ap (turn_text None) e
