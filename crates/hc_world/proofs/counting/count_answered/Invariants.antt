use Rattle.std.proofs.Common.{◌≡◌, take}
use Rattle.std.specs.Prelude.{count_by}
use Rattle.hc_world.proofs.counting.count_answered.Given as goal

abbrev pub invariant-ids : goal.invariant-ids
invariant-ids l = l.count ≡ count_by (λ b. b) (take l.is_answered-index l.is_answered-items)
