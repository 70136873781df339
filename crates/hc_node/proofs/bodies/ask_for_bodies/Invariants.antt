use Rattle.std.proofs.Common.{◌≡◌, ◌++◌, take}
use Rattle.std.specs.List.{flat_map}
use Rattle.hc_node.proofs.Asked.{asked_of}
use Rattle.hc_node.proofs.bodies.ask_for_bodies.Given as goal

abbrev pub invariant-ids : goal.invariant-ids
invariant-ids l = l.sends.items ≡ l.initial.sends.items ++ flat_map (asked_of l.setup l.leader) (take l.rid-index l.missing)
