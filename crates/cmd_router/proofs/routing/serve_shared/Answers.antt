-- The workers share a new router, and their totals are told.
use Rattle.std.proofs.Common.{◌≡◌, ◌*◌, ℕ, length, ap, subst}
use Rattle.r2_jbsq.specs.State.{RouterState, slots_of}
use Rattle.cmd_loop.specs.Ends.{Ends}
use Rattle.cmd_router.specs.Works.{SharesRouter}
use Rattle.cmd_router.proofs.Shares.{shares-of}
use Rattle.cmd_router.proofs.routing.serve_shared.Goals as goal

pub returns-in-Ok-shared-clause-shared : goal.returns-in-Ok-shared-clause-shared
returns-in-Ok-shared-clause-shared g c o =
    let a : Ends = record o { written = g.K.Sink.written c.args.sink.now; link = g.L.Link.told c.args.link.now; clock = g.C.Clock.left c.args.clock.now } in
    let b : Ends = record o { written = g.K.Sink.written c.tell_end.new.sink; link = g.L.Link.told c.share_router-shared.new.link; clock = g.C.Clock.left c.share_router-shared.new.clock } in
    let shared = c.in-Ok-shared.shared in
    let slots : slots_of c.in-Ok.router.setup ≡ length c.args.servers * c.args.n = ap (λ (r : RouterState). slots_of r.setup) c.in-Ok.ensures.begun in
    shares-of (length c.args.servers * c.args.n) c.args.workers c.args.pace a b shared.totals shared.ended c.tell_end.result
    (λ whole.
    let k = c.in-Ok-shared.ensures.shared whole o in
    subst (λ (m : ℕ). SharesRouter m c.args.workers c.args.pace a b shared.totals shared.ended) slots
    (record { first = k.first; others = k.others; work = k.work; counts = k.counts }))
    c.in-Ok-shared.ensures.ran c.tell_end.ensures.untold c.tell_end.ensures.told c.in-Ok-shared.ensures.known
