-- A replica that begins, and what it stores and sends.
use Rattle.std.proofs.Common.{◌≡◌, ◌≤◌, List, Option, Some, refl, sym, subst, ap, arith}
use Rattle.r2_base.specs.declared.datagram.Datagram.{Datagram}
use Rattle.hc_log.specs.declared.record.Record.{Record}
use Rattle.hc_log.specs.Durable.{State}
use Rattle.hc_member.specs.declared.setup.Setup.{Setup}
use Rattle.hc_member.specs.Member.{Member, anew, durable_of}
use Rattle.hc_node.specs.Node.{NodeState}
use Rattle.cmd_loop.specs.Happenings.{Happening}
use Rattle.cmd_replica.specs.declared.halves.Left.{Left}
use Rattle.cmd_replica.specs.Party.{Becomes, IsAt, LedTo, left_of}
use Rattle.cmd_replica.specs.Replica.{HasAppliedAll, LeadTo, ReplicaServes, ReplicaServesAll, served}

-- the replica that begins
abbrev pub begins : Setup → State → NodeState
begins s d = record { setup = s; member = anew d }

-- nothing is left for it to apply
abbrev pub none_left : Left
none_left = record { pending = 0; unapplied = 0 }

pub begun-at : (s : Setup) (d : State) (now : Option NodeState) → now ≡ Some (begins s d) → IsAt (begins s d) now none_left
unfolding anew
begun-at s d now is = record { node = is; is_left = refl; within = omega arith }

pub durable-anew : (d : State) → durable_of (anew d) ≡ d
unfolding anew
durable-anew d = refl

pub begun-led : (told : Option (List Record)) (s : Setup) (d : State) (now : Option NodeState) → now ≡ Some (begins s d) → LeadTo told d → LedTo told now
begun-led told s d now is leads = subst (LedTo told) (sym is) (subst (LeadTo told) (sym (durable-anew d)) leads)

-- what it stores and sends
pub begun-serves : (s : Setup) (d : State) (first last : Option NodeState) (left : Left) (happened : List Happening) (stored : List Record) (sent : List Datagram)
    → first ≡ Some (begins s d) → Becomes first none_left happened stored sent last left → ReplicaServes s d happened stored sent
begun-serves s d first last left happened stored sent is becomes =
    let has = becomes (begins s d) (begun-at s d first is) in
    (has.stored, has.sent)

-- where nothing is left to apply, all is applied
all-applied : (m : Member) (left : Left) → m.applied ≤ m.commit → left ≡ left_of m → left.unapplied ≡ 0 → HasAppliedAll m
all-applied m left within is none =
    let here = ap (λ (l : Left). l.unapplied) is in
    omega (arith, within, here, none)

pub begun-serves-all : (s : Setup) (d : State) (first last : Option NodeState) (left : Left) (happened : List Happening) (stored : List Record) (sent : List Datagram)
    → first ≡ Some (begins s d) → Becomes first none_left happened stored sent last left → left.unapplied ≡ 0 → ReplicaServesAll s d happened stored sent
begun-serves-all s d first last left happened stored sent is becomes none =
    let has = becomes (begins s d) (begun-at s d first is) in
    let at = has.at in
    ((has.stored, has.sent), all-applied (served s (anew d) happened).member left at.within at.is_left none)
