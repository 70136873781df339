-- One bound is read as such, and a list of one is no different.
use Rattle.std.proofs.Common.{arith, inl, refl, sym, ◌∙◌}
use Rattle.std.proofs.Math.ListN.{replicate}
use Rattle.hc_text.specs.Texts.{IsOneBound}
use Rattle.hc_text.proofs.Reading.{bounds_answer}
use Rattle.hc_text.proofs.SameTexts.{same_bounds}
use Rattle.hc_text.proofs.texts.read_bounds.Goals as goal

pub returns-in-Some-clause-only : goal.returns-in-Some-clause-only
returns-in-Some-clause-only c = λ bounds is.
    let found = c.in-Some.ensures.found in
    let one : IsOneBound c.args.members (replicate c.args.members c.in-Some.bound) c.args.text.now = record {
      bound = c.in-Some.bound;
      number = record { from_least = found.from_least; to_most = omega (arith, found.to_most); spelled = sym c.as_bytes.ensures.value ∙ found.spelled };
      for_all = refl;
    } in
    bounds_answer _ _ bounds (same_bounds _ _ bounds _ (inl one) is) c.same_bound.ensures
