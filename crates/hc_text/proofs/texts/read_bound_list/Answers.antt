-- The parts are the bounds of the list, one after another.
use Rattle.std.proofs.Common.{decimal, ◌∙◌, ap, rules, subst, sym}
use Rattle.hc_replier.specs.Bounds.{AreBounds}
use Rattle.hc_text.proofs.Lists.{as_many, parts-bounds}
use Rattle.hc_text.proofs.Reading.{bounds_found, bounds_one, bounds_only, next_bound, texts}
use Rattle.hc_text.proofs.texts.read_bound_list.Goals as goal

pub returns-then-parts-members-clause-only : goal.returns-then-parts-members-clause-only
returns-then-parts-members-clause-only c = λ list is.
    absurd (c.if-parts-members.true (as_many decimal _ _ list (ap texts c.as_slice-parts.ensures.value ∙ c.in-Ok.ensures) (parts-bounds list _ is) ∙ is.one_each))

pub returns-in_err-push_bound-clause-only : goal.returns-in_err-push_bound-clause-only
returns-in_err-push_bound-clause-only c = λ list is.
    let next = next_bound _ _ _ list _ _ (ap texts c.as_slice-parts.ensures.value ∙ c.in-Ok.ensures) c.parts-test.true c.as_bytes.ensures.value is in
    search (rules, c.in_err-push_bound.ensures.only next.n next.fits next.spelled)

pub parts-preserved : goal.parts-preserved
parts-preserved c =
    let found = c.in_ok-push_bound.ensures.found in
    bounds_one _ _ _ _ found.0 _ _ c.parts.invariant c.parts-test.true c.as_bytes.ensures.value found.1 found.2 found.3

pub returns-then-not-are_bounds-clause-only : goal.returns-then-not-are_bounds-clause-only
returns-then-not-are_bounds-clause-only c = λ list is.
    let same = bounds_only _ _ _ _ list (ap texts c.as_slice-parts.ensures.value ∙ c.in-Ok.ensures) c.parts.invariant c.parts-test.false is in
    let yes = c.are_bounds.ensures.1 (subst AreBounds (sym (c.as_slice.ensures.value ∙ same)) is.valid) in
    cc (yes, c.if-not-are_bounds.true)

pub returns-clause-found : goal.returns-clause-found
returns-clause-found c =
    bounds_found _ _ _ _ _ _ (ap texts c.as_slice-parts.ensures.value ∙ c.in-Ok.ensures) c.parts.invariant c.parts-test.false c.if-parts-members.false
    (subst AreBounds c.as_slice.ensures.value (c.are_bounds.ensures.0 c.if-not-are_bounds.false)) c.from_vec.ensures

pub returns-clause-only : goal.returns-clause-only
returns-clause-only c = λ list is.
    c.from_vec.ensures ∙ bounds_only _ _ _ _ list (ap texts c.as_slice-parts.ensures.value ∙ c.in-Ok.ensures) c.parts.invariant c.parts-test.false is
