use Rattle.std.proofs.Common.{◌≡◌, take, arith}
use Rattle.std.specs.Prelude.{count_by}
use Rattle.std.proofs.lemmas.List.{length-take}
use Rattle.hc_world.proofs.Tallied.{count-most}
use Rattle.hc_world.proofs.counting.count_answered.Goals as goal

pub overflow_add-count : goal.overflow_add-count
overflow_add-count c =
    let is : c.ids.count ≡ count_by (λ b. b) (take c.ids.is_answered-index (take c.min-sent.result c.args.answered.now)) = c.ids.invariant in
    let most = count-most (take c.min-sent.result c.args.answered.now) c.ids.is_answered-index in
    let inside = c.ids-test.true in
    let short = length-take c.min-sent.result c.args.answered.now in
    let small = c.min-sent.ensures in
    let fits = c.min-sent.type_inv in
    record { fits = omega (arith, is, most, inside, short, small, fits) }
