-- The loop's own record, told of the link that takes its twin back.
use Rattle.std.proofs.Common.{[]}
use Rattle.cmd_loop.specs.Ends.{Ends}
use Rattle.cmd_loop.proofs.Passing.{Passes-link}
use Rattle.cmd_router.proofs.Twins.{runs-on-twin}
use Rattle.cmd_router.proofs.on_twin.serve_on_twin.Goals as goal

pub returns-in-Err-clause-untouched : goal.returns-in-Err-clause-untouched
returns-in-Err-clause-untouched g c o =
    Passes-link (record o { clock = g.C.Clock.left c.args.clock.now }) (g.L.Link.told c.args.link.now) (g.L.Link.told c.twin.new.self) [] [] c.in-Err.ensures.split

pub returns-clause-ran : goal.returns-clause-ran
returns-clause-ran g c o =
    let a : Ends = record o { link = g.L.Link.told c.in-Ok.twin; clock = g.C.Clock.left c.args.clock.now } in
    let b : Ends = record o { link = g.L.Link.told c.serve_without_journal-status.new.link; clock = g.C.Clock.left c.serve_without_journal-status.new.clock } in
    runs-on-twin _ _ _ c.args.pace a b (g.L.Link.told c.args.link.now) (g.L.Link.told c.twin.new.self) (g.L.Link.told c.rejoin.new.self)
    c.serve_without_journal-status.result c.in-Ok.ensures.split c.rejoin.ensures.rejoined (c.serve_without_journal-status.ensures.ran o)
