use Rattle.std.proofs.Common.{ap, sym, ◌∙◌, arith}
use Rattle.std.specs.FinMap as finite
use Rattle.hc_store.specs.Tree.{found_size}
use Rattle.hc_store.specs.Service.{size_of}
use Rattle.hc_store.proofs.Maps.{get_is_lookup}
use Rattle.hc_store.proofs.Sizes.{found-le}
use Rattle.hc_store.proofs.store.Store.bytes_beside.Goals as goal

pub overflow_sub-result : goal.overflow_sub-result
overflow_sub-result c =
    let size = found-le c.self.inside.pairs c.self.inside.bytes c.args.key.now _ c.self.invariant c.in-Some.ensures.value in
    omega (arith, size)

pub overflow_sub-result-in-Some : goal.overflow_sub-result-in-Some
overflow_sub-result-in-Some c =
    let size = found-le c.self.inside.pairs c.self.inside.bytes c.args.key.now _ c.self.invariant c.in-Some.ensures.value in
    omega (arith, size)

pub returns-in-Some : goal.returns-in-Some
returns-in-Some c =
    let size = found-le c.self.inside.pairs c.self.inside.bytes c.args.key.now _ c.self.invariant c.in-Some.ensures.value in
    let found = ap (found_size c.args.key.now) (c.in-Some.ensures.value ∙ sym (get_is_lookup c.self.inside.pairs c.args.key.now)) in
    let view = ap (λ m. found_size c.args.key.now (finite.get m c.args.key.now)) c.self.view_is in
    omega (arith, size, found, view, c.self.invariant.size, ap size_of c.self.view_is)

pub returns-in-None : goal.returns-in-None
returns-in-None c =
    let found = ap (found_size c.args.key.now) (c.in-None.ensures.value ∙ sym (get_is_lookup c.self.inside.pairs c.args.key.now)) in
    let view = ap (λ m. found_size c.args.key.now (finite.get m c.args.key.now)) c.self.view_is in
    omega (arith, found, view, c.self.invariant.size, ap size_of c.self.view_is)
