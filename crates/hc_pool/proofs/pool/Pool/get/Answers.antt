use Rattle.std.proofs.Common.{◌≡◌, None, sym, ◌∙◌}
use Rattle.std.specs.Map.{values_of}
use Rattle.hc_pool.specs.Pool.{request_of}
use Rattle.hc_pool.proofs.Requests.{waits-from_None, waits-from_Some}
use Rattle.hc_pool.proofs.Keyed.{lookup_request, found_under}
use Rattle.hc_pool.proofs.pool.Pool.get.Goals as goal

pub returns-in-None-clause-request : goal.returns-in-None-clause-request
returns-in-None-clause-request c =
    rw (← c.self.view_is) (sym (c.in-None.ensures.value ∙ lookup_request c.args.rid.now c.self.inside.requests.entries c.self.invariant.1))

pub returns-in-None-clause-waits : goal.returns-in-None-clause-waits
returns-in-None-clause-waits c =
    let es = c.self.inside.requests.entries in
    let none : request_of c.args.rid.now (values_of es) ≡ None = sym (c.in-None.ensures.value ∙ lookup_request c.args.rid.now es c.self.invariant.1) in
    rw (← c.self.view_is) (waits-from_None c.args.rid.now (values_of es) none)

pub returns-in-Some-clause-request : goal.returns-in-Some-clause-request
returns-in-Some-clause-request c =
    rw (← c.self.view_is) (found_under c.args.rid.now c.self.inside.requests.entries c.in-Some.request.now c.self.invariant.1 c.in-Some.ensures.value)

pub returns-in-Some-clause-waits : goal.returns-in-Some-clause-waits
returns-in-Some-clause-waits c =
    let es = c.self.inside.requests.entries in
    rw (← c.self.view_is) (waits-from_Some c.args.rid.now (values_of es) _ (found_under c.args.rid.now es c.in-Some.request.now c.self.invariant.1 c.in-Some.ensures.value))
