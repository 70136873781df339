use Rattle.std.proofs.Common.{◌≡◌, sym, ap, subst, ◌∙◌}
use Rattle.std.specs.Prelude.{max, nat_le, filter, fold}
use Rattle.std.proofs.lemmas.List.{take_all}
use Rattle.hc_order.specs.Counting.{IsCounted, counted, reaching}
use Rattle.hc_order.proofs.Greatest.{is_counted}
use Rattle.hc_order.proofs.counting.counted.Goals as goal

pub returns-clause-greatest : goal.returns-clause-greatest
unfolding counted
returns-clause-greatest c =
    let reached = c.args.reached.now in
    let all = take_all c.numbers.number-index reached c.numbers-test.false in
    let same : c.numbers.greatest ≡ counted reached c.args.need =
    c.numbers.invariant ∙ ap (λ xs. fold max 0 (filter (λ m. nat_le c.args.need (reaching reached m)) xs)) all in
    subst (IsCounted reached c.args.need) (sym same) (is_counted reached c.args.need c.requires.least c.requires.most)
