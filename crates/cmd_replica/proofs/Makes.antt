-- What a half of a turn comes to, by what a node says of it.
use Rattle.std.proofs.Common.{◌≡◌, List, Option, Some, None, refl}
use Rattle.r2_base.specs.declared.datagram.Datagram.{Datagram}
use Rattle.r2_base.specs.declared.event.Event.{Event}
use Rattle.hc_log.specs.declared.turn.Turn.{Turn}
use Rattle.hc_member.specs.Finish.{finished}
use Rattle.hc_member.specs.Laws.{IsStored}
use Rattle.hc_member.specs.Member.{Member, durable_of}
use Rattle.hc_member.specs.Sending.{datagrams_of_all}
use Rattle.hc_member.specs.Turn.{reacted}
use Rattle.hc_node.specs.Node.{NodeState, with_member}
use Rattle.cmd_replica.specs.declared.halves.Left.{Left}
use Rattle.cmd_replica.specs.Party.{IsAt, MakesFirst, MakesSecond}
use Rattle.hc_member.proofs.Progress.{finished-durable}

-- a replica becomes one with another member
abbrev pub MakesOf : (NodeState → Member) → Option NodeState → Option NodeState → Type 0
MakesOf f old new = (n : NodeState) → old ≡ Some n → new ≡ Some (with_member n (f n))

-- what is left to apply is told of the new replica
abbrev pub TellsLeft : Option NodeState → Left → Type 0
TellsLeft new left = (n : NodeState) → new ≡ Some n → IsAt n new left

pub makes-first : (old new : Option NodeState) (sends : List Datagram) (left : Left)
    → MakesOf (λ n. (finished n.setup n.member).member) old new
    → ((n : NodeState) → old ≡ Some n → sends ≡ datagrams_of_all n.setup (finished n.setup n.member).sends)
    → TellsLeft new left → MakesFirst old new (record { turn = record { stored = None; sends = sends }; left = left })
makes-first old new sends left makes gives tells n is =
    record { at = tells _ (makes n is); stored = refl; sends = gives n is; changed = finished-durable n.setup n.member }

pub makes-second : (old new : Option NodeState) (event : Event) (turn : Turn) (left : Left)
    → MakesOf (λ n. (reacted n.setup n.member event).member) old new
    → ((n : NodeState) → old ≡ Some n → turn.stored ≡ (reacted n.setup n.member event).stored)
    → ((n : NodeState) → old ≡ Some n → turn.sends ≡ datagrams_of_all n.setup (reacted n.setup n.member event).sends)
    → ((n : NodeState) → old ≡ Some n → IsStored (durable_of n.member) turn.stored (durable_of (reacted n.setup n.member event).member))
    → TellsLeft new left → MakesSecond event old new (record { turn = turn; left = left })
makes-second old new event turn left makes keeps gives changes tells n is =
    record { at = tells _ (makes n is); stored = keeps n is; sends = gives n is; changed = changes n is }
