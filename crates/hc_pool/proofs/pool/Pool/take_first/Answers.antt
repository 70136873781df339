use Rattle.std.proofs.Common.{◌≡◌, false, sym, subst}
use Rattle.std.specs.Map.{values_of}
use Rattle.hc_pool.specs.Pool.{waits_in, IsPool}
use Rattle.hc_pool.specs.Keys.{AreUnderTheirIds}
use Rattle.hc_pool.proofs.Keyed.{IsKeyedPool-first, first_once-keyed}
use Rattle.hc_pool.proofs.pool.Pool.take_first.Goals as goal

pub invariant_of-self-2 : goal.invariant_of-self-2
invariant_of-self-2 c =
    subst (λ es. IsPool (values_of es) × AreUnderTheirIds es) (sym c.in_ok-request.ensures.entries)
    (IsKeyedPool-first c.self.inside.requests.entries c.self.invariant.0 c.self.invariant.1)

pub returns-clause-once : goal.returns-clause-once
returns-clause-once c =
    subst (λ es. waits_in c.in_ok-request.request.rid (values_of es) ≡ false) (sym c.in_ok-request.ensures.entries)
    (first_once-keyed c.self.inside.requests.entries (c.in_ok-request.field-0-0, c.in_ok-request.request) c.in_ok-request.ensures.entry c.self.invariant.0)
