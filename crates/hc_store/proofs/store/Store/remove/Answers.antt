use Rattle.std.proofs.Common.{ap, sym, ◌∙◌, arith}
use Rattle.std.specs.Prelude.{is_some}
use Rattle.std.specs.FinMap as finite
use Rattle.hc_store.proofs.Maps.{get_is_lookup, remove_is_remove}
use Rattle.hc_store.proofs.Sizes.{found-le, IsMeasured-remove}
use Rattle.hc_store.proofs.store.Store.remove.Goals as goal

pub overflow_add-self : goal.overflow_add-self
overflow_add-self c =
    let size = found-le c.self.inside.pairs c.self.inside.bytes c.args.key.now _ c.self.invariant c.in-Some.ensures.value in
    omega (arith, size)

pub overflow_sub-self : goal.overflow_sub-self
overflow_sub-self c =
    let size = found-le c.self.inside.pairs c.self.inside.bytes c.args.key.now _ c.self.invariant c.in-Some.ensures.value in
    omega (arith, size)

pub invariant_of-self : goal.invariant_of-self
invariant_of-self c =
    let size = found-le c.self.inside.pairs c.self.inside.bytes c.args.key.now _ c.self.invariant c.in-Some.ensures.value in
    IsMeasured-remove c.self.inside.pairs c.remove.new.self c.self.inside.bytes _ c.args.key.now c.in-Some.value
    c.self.invariant c.in-Some.ensures.value c.in-Some.ensures.ordered c.in-Some.ensures.updates.0 (omega (arith, size))

pub returns-in-Some-clause-was_there : goal.returns-in-Some-clause-was_there
returns-in-Some-clause-was_there c =
    ap is_some (c.in-Some.ensures.value ∙ sym (get_is_lookup c.self.inside.pairs c.args.key.now)) ∙ ap (λ m. is_some (finite.get m c.args.key.now)) c.self.view_is

pub returns-in-Some-clause-contents : goal.returns-in-Some-clause-contents
returns-in-Some-clause-contents c =
    remove_is_remove c.self.inside.pairs c.remove.new.self c.args.key.now c.in-Some.ensures.updates.0 ∙ ap (λ m. finite.remove m c.args.key.now) c.self.view_is

pub returns-in-None-clause-was_there : goal.returns-in-None-clause-was_there
returns-in-None-clause-was_there c =
    ap is_some (c.in-None.ensures.value ∙ sym (get_is_lookup c.self.inside.pairs c.args.key.now)) ∙ ap (λ m. is_some (finite.get m c.args.key.now)) c.self.view_is
