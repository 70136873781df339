use Rattle.std.proofs.Common.{ℕ, length, ap, sym, subst, ◌∙◌, All, arith}
use Rattle.r2_jbsq.specs.State.{slots_of}
use Rattle.cmd_loop.specs.Ends.{Ends}
use Rattle.cmd_router.specs.Loops.{NoneRan, WorkersRan}
use Rattle.cmd_router.proofs.Ready.{IsFresh}
use Rattle.cmd_router.proofs.Sums.{all-fresh, fresh-long, shares-router}
use Rattle.cmd_router.proofs.Unrun.{none-began}
use Rattle.cmd_router.proofs.sharing.share_router.Goals as goal

pub work_at_desk-requires-clause-fresh : goal.work_at_desk-requires-clause-fresh
work_at_desk-requires-clause-fresh g c κs within =
    subst (All IsFresh) (sym c.in-Ok.ensures.passes) (all-fresh (slots_of c.args.router.setup) c.args.workers)

pub work_at_desk-requires-clause-some : goal.work_at_desk-requires-clause-some
work_at_desk-requires-clause-some g c κs within =
    let long = ap length c.in-Ok.ensures.passes ∙ fresh-long (slots_of c.args.router.setup) c.args.workers in omega (arith, long, c.requires.some_worker)

pub totals_of-requires : goal.totals_of-requires
totals_of-requires g c =
    let long = ap length c.in-Ok.ensures.passes ∙ fresh-long (slots_of c.args.router.setup) c.args.workers in
    omega (arith, long, c.in-Ok.ensures.made, c.in-Ok-work_at_desk.ensures.as_many)

pub returns-in-Ok-work_at_desk-clause-shared : goal.returns-in-Ok-work_at_desk-clause-shared
returns-in-Ok-work_at_desk-clause-shared g c = λ whole o.
    let a : Ends = record o { link = g.L.Link.told c.args.link.now; clock = g.C.Clock.left c.args.clock.now } in
    let b : Ends = record o { link = g.L.Link.told c.work_at_desk.new.link; clock = g.C.Clock.left c.work_at_desk.new.clock } in
    let settled = c.totals_of.ensures in
    shares-router (slots_of c.args.router.setup) c.args.workers c.requires.some_worker c.args.pace a b c.in-Ok.passes.items c.in-Ok-work_at_desk.worked.passes.items
    c.totals_of.result settled.0 c.in-Ok-work_at_desk.worked.ended c.in-Ok.ensures.passes (c.in-Ok-work_at_desk.ensures.worked whole) settled.1

pub returns-in_default-clause-none : goal.returns-in_default-clause-none
returns-in_default-clause-none g c = none-began c.args.workers (g.L.Link.told c.args.link.now) c.requires.some_worker

pub returns-in_default-with_capacity-clause-none : goal.returns-in_default-with_capacity-clause-none
returns-in_default-with_capacity-clause-none g c = none-began c.args.workers (g.L.Link.told c.args.link.now) c.requires.some_worker

pub returns-in-Ok-work_at_desk-clause-ran : goal.returns-in-Ok-work_at_desk-clause-ran
returns-in-Ok-work_at_desk-clause-ran g c =
    let long = ap length c.in-Ok.ensures.passes ∙ fresh-long (slots_of c.args.router.setup) c.args.workers in
    subst (λ (n : ℕ). WorkersRan n c.args.pace (g.L.Link.told c.args.link.now) (g.L.Link.told c.work_at_desk.new.link) (g.C.Clock.left c.args.clock.now) (g.C.Clock.left c.work_at_desk.new.clock)
    c.in-Ok-work_at_desk.worked.ended) long c.in-Ok-work_at_desk.ensures.ran

pub returns-in-Err-clause-none : goal.returns-in-Err-clause-none
returns-in-Err-clause-none g c =
    let long = ap length c.in-Ok.ensures.passes ∙ fresh-long (slots_of c.args.router.setup) c.args.workers in
    subst (λ (n : ℕ). NoneRan n (g.L.Link.told c.args.link.now) (g.L.Link.told c.work_at_desk.new.link)) long c.in-Err.ensures.none
