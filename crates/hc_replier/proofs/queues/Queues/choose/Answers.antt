use Rattle.std.proofs.Common.{◌≡◌, Some, None, refl, arith}
use Rattle.hc_replier.specs.Queues.{choose}
use Rattle.hc_replier.proofs.Choosing.{is_chosen, full-none, full-some, member-fits}
use Rattle.hc_replier.proofs.queues.Queues.choose.Goals as goal

pub overflow_cast-result : goal.overflow_cast-result
overflow_cast-result c =
    let some : choose c.self.inside.queues.items ≡ Some c.in-Some.member = cc in
    let fits = member-fits c.self.inside.queues.items c.in-Some.member c.self.invariant some in
    omega (arith, fits)

pub returns-in-None-clause-none : goal.returns-in-None-clause-none
returns-in-None-clause-none c =
    let none : choose c.self.inside.queues.items ≡ None = cc in
    rw (← c.self.view_is) (λ _. full-none c.self.inside.queues.items c.self.invariant none, λ _. refl)

pub returns-in-Some-clause-found : goal.returns-in-Some-clause-found
returns-in-Some-clause-found c =
    let some : choose c.self.inside.queues.items ≡ Some c.in-Some.member = cc in
    rw (← c.self.view_is) (is_chosen c.self.inside.queues.items c.in-Some.member some)

pub returns-in-Some-clause-none : goal.returns-in-Some-clause-none
returns-in-Some-clause-none c =
    let some : choose c.self.inside.queues.items ≡ Some c.in-Some.member = cc in
    rw (← c.self.view_is) (λ no. cc, λ full. absurd (full-some c.self.inside.queues.items c.in-Some.member some full))
