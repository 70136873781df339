use Rattle.std.proofs.Common.{◌≡◌, List, [], ◌∷◌, drop, refl, ap, ◌∙◌, arith}
use Rattle.std.specs.List.{common_prefix_len}
use Rattle.std.proofs.lemmas.List.{drop_all}
use Rattle.hc_log.specs.declared.stored.Stored.{Stored}
use Rattle.hc_order.specs.Taking.{agreeing, agrees}
use Rattle.hc_order.proofs.taking.agreeing.Goals as goal

none-left : (log : List Stored) → common_prefix_len agrees log [] ≡ 0
none-left [] = refl
none-left (s ∷ later) = refl

pub returns-clause-count : goal.returns-clause-count
unfolding agreeing
returns-clause-count c =
    let rest = drop c.entries.i (drop c.args.at c.args.log.now) in
    let none : common_prefix_len agrees rest (drop c.entries.i c.args.entries.now) ≡ 0 =
    ap (common_prefix_len agrees rest) (drop_all c.entries.i c.args.entries.now c.entries-test.false) ∙ none-left rest in
    omega (arith, none, c.entries.invariant.same)
