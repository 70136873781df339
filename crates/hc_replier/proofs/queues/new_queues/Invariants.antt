use Rattle.std.proofs.Common.{◌≡◌, map, take}
use Rattle.hc_replier.specs.Queues.{new_queues}
use Rattle.hc_replier.proofs.queues.new_queues.Given as goal

abbrev pub invariant-bounds : goal.invariant-bounds
invariant-bounds l = l.queues.items ≡ new_queues (take l.bound-index l.bounds)
