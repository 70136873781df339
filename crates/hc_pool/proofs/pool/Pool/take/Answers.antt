use Rattle.std.proofs.Common.{sym, subst, ap, ◌∙◌}
use Rattle.std.specs.Map.{values_of}
use Rattle.hc_pool.specs.Pool.{IsPool}
use Rattle.hc_pool.specs.Keys.{AreUnderTheirIds}
use Rattle.hc_pool.proofs.Requests.{found_fits}
use Rattle.hc_pool.proofs.Keyed.{lookup_request, found_under, removed_request, IsKeyedPool-removed}
use Rattle.hc_pool.proofs.pool.Pool.take.Goals as goal

pub invariant_of-self-2 : goal.invariant_of-self-2
invariant_of-self-2 c =
    subst (λ es. IsPool (values_of es) × AreUnderTheirIds es) (sym c.shift_remove.ensures.entries)
    (IsKeyedPool-removed c.args.rid.now c.self.inside.requests.entries c.self.invariant.0 c.self.invariant.1)

pub returns-in_default-clause-taken : goal.returns-in_default-clause-taken
returns-in_default-clause-taken c =
    rw (← c.self.view_is) (sym (c.in_default.ensures.value ∙ lookup_request c.args.rid.now c.self.inside.requests.entries c.self.invariant.1))

pub returns-in_default-clause-others : goal.returns-in_default-clause-others
returns-in_default-clause-others c =
    rw (← c.self.view_is) (ap values_of c.shift_remove.ensures.entries ∙ removed_request c.args.rid.now c.self.inside.requests.entries c.self.invariant.1 c.self.invariant.0)

pub returns-clause-taken : goal.returns-clause-taken
returns-clause-taken c =
    rw (← c.self.view_is) (found_under c.args.rid.now c.self.inside.requests.entries c.in-Some.request c.self.invariant.1 c.in-Some.ensures.value)

pub returns-clause-others : goal.returns-clause-others
returns-clause-others c =
    rw (← c.self.view_is) (ap values_of c.shift_remove.ensures.entries ∙ removed_request c.args.rid.now c.self.inside.requests.entries c.self.invariant.1 c.self.invariant.0)

pub returns-clause-fits : goal.returns-clause-fits
returns-clause-fits c =
    found_fits c.args.rid.now (values_of c.self.inside.requests.entries) _ c.self.invariant.0.requests
    (found_under c.args.rid.now c.self.inside.requests.entries c.in-Some.request c.self.invariant.1 c.in-Some.ensures.value)
