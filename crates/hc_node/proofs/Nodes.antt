-- What holds of a replica after each half of a turn.
use Rattle.std.proofs.Common.{◌≡◌, ◌≤◌, List, [], ◌∷◌, length, Option, sym, subst}
use Rattle.std.specs.Prelude.{All}
use Rattle.std.proofs.lemmas.List.Elements.{All-append, All-head, All-nil, All-tail}
use Rattle.r2_base.specs.declared.datagram.Datagram.{Datagram}
use Rattle.r2_base.specs.declared.event.Event.{Event}
use Rattle.hc_log.specs.declared.record.Record.{Record}
use Rattle.hc_log.specs.Durable.{State, IsValid}
use Rattle.hc_member.specs.declared.setup.Setup.{Setup}
use Rattle.hc_member.specs.Finish.{finished}
use Rattle.hc_member.specs.Laws.{HasBytes, IsStored, most_datagram_bytes}
use Rattle.hc_member.specs.Member.{anew, durable_of}
use Rattle.hc_member.specs.Sending.{Sending, IsSent, datagrams_of, datagrams_of_all}
use Rattle.hc_member.specs.Setup.{IsSetup}
use Rattle.hc_member.specs.Turn.{reacted}
use Rattle.hc_member.proofs.Begun.{sound-anew}
use Rattle.hc_member.proofs.Datagrams.{datagrams_are_short}
use Rattle.hc_member.proofs.Finished.{finishes}
use Rattle.hc_member.proofs.Turned.{reacts}
use Rattle.hc_node.specs.Node.{IsSoundNode, NodeState, with_member}

abbrev IsShort : Datagram → Type 0
IsShort d = length d.bytes ≤ most_datagram_bytes

-- the datagrams of all that is sent fit
all-short : (s : Setup) (sends : List Sending) → All IsSent sends → All IsShort (datagrams_of_all s sends)
all-short s [] all = All-nil IsShort
all-short s (x ∷ xs) all =
    All-append IsShort (datagrams_of s x) (datagrams_of_all s xs) (datagrams_are_short s x (All-head IsSent x xs all)) (all-short s xs (All-tail IsSent x xs all))

-- a replica that begins
pub start-sound : (s : Setup) (d : State) → IsSetup s → IsValid d → IsSoundNode (record { setup = s; member = anew d })
start-sound s d is valid = record { setup = is; sound = sound-anew s d valid }

-- the first half of a turn
pub finish-sound : (n : NodeState) → IsSoundNode n → IsSoundNode (with_member n (finished n.setup n.member).member)
finish-sound n is = record { setup = is.setup; sound = (finishes n.setup is.setup n.member is.sound).sound }

pub finish-short : (n : NodeState) → IsSoundNode n → All IsShort (datagrams_of_all n.setup (finished n.setup n.member).sends)
finish-short n is = all-short n.setup (finished n.setup n.member).sends (finishes n.setup is.setup n.member is.sound).sends

-- the other
pub react-sound : (n : NodeState) (event : Event) → HasBytes event → IsSoundNode n → IsSoundNode (with_member n (reacted n.setup n.member event).member)
react-sound n event are is = record { setup = is.setup; sound = (reacts n.setup is.setup n.member event are is.sound).sound }

pub react-short : (n : NodeState) (event : Event) → HasBytes event → IsSoundNode n → All IsShort (datagrams_of_all n.setup (reacted n.setup n.member event).sends)
react-short n event are is = all-short n.setup (reacted n.setup n.member event).sends (reacts n.setup is.setup n.member event are is.sound).sends

-- what it stores, from the replica that is known
pub react-changed : (n live : NodeState) (event : Event) (stored : Option Record) → live ≡ n → HasBytes event → IsSoundNode live
    → stored ≡ (reacted live.setup live.member event).stored
    → IsStored (durable_of n.member) stored (durable_of (reacted n.setup n.member event).member)
react-changed n live event stored same are is e =
    subst (λ (x : NodeState). IsStored (durable_of x.member) stored (durable_of (reacted x.setup x.member event).member)) same
    (subst (λ (r : Option Record). IsStored (durable_of live.member) r (durable_of (reacted live.setup live.member event).member)) (sym e)
    (reacts live.setup is.setup live.member event are is.sound).stores)
