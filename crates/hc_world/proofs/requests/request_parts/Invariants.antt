use Rattle.std.proofs.Common.{◌≡◌, take}
use Rattle.hc_world.specs.Events.{request_at}
use Rattle.hc_world.proofs.Asked.{parts_to}
use Rattle.hc_world.proofs.requests.request_parts.Given as goal

abbrev pub invariant-members : goal.invariant-members
invariant-members l = l.all.items ≡ parts_to (request_at l.id l.kind l.body) (take l.to-index l.members)
