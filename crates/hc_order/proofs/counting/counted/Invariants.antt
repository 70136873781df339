use Rattle.std.proofs.Common.{◌≡◌, take}
use Rattle.std.specs.Prelude.{max, nat_le, filter, fold}
use Rattle.hc_order.specs.Counting.{reaching}
use Rattle.hc_order.proofs.counting.counted.Given as goal

abbrev pub invariant-numbers : goal.invariant-numbers
invariant-numbers l = l.greatest ≡ fold max 0 (filter (λ m. nat_le l.need (reaching l.reached m)) (take l.number-index l.reached))
