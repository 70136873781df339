use Rattle.std.proofs.Common.{[], ◌∷◌}
use Rattle.r2_base.specs.declared.event.Event.TheVariants.{Tick}
use Rattle.cmd_loop.specs.Ends.{Ends}
use Rattle.cmd_loop.specs.Happenings.{Came}
use Rattle.cmd_loop.specs.Party.{ReactsTo, Turns}
use Rattle.cmd_loop.specs.Round.{SomeReacts, SomeTurns}
use Rattle.cmd_loop.proofs.Steps.{Makes-by, Stops-by, both-halves}
use Rattle.cmd_loop.proofs.round.make_tick.Goals as goal

pub returns-clause-made : goal.returns-clause-made
returns-clause-made g c o =
    let T = g.P.Party.turned in
    let F = g.P.Party.finished in
    let p = c.args.party.now in
    let q = c.finish.new.self in
    let s = c.hear.new.party in
    let first : Ends = record o { link = g.L.Link.told c.args.link.now; records = g.J.Journal.records c.args.journal.now } in
    let last : Ends = record o { link = g.L.Link.told c.hear.new.link; records = g.J.Journal.records c.hear.new.journal } in
    Makes-by (ReactsTo T F q s Tick c.in-Ok.replies) (Turns T p s (Came Tick ∷ [])) (both-halves T F p q s Tick c.in-Ok.replies c.in-Ok.ensures.replies) first last [] []
    ((rw c.as_slice.ensures at c.in_default-hear.ensures.made) o)

pub returns-in-Err-clause-stops : goal.returns-in-Err-clause-stops
returns-in-Err-clause-stops g c o =
    let T = g.P.Party.turned in
    let F = g.P.Party.finished in
    let p = c.args.party.now in
    let q = c.finish.new.self in
    let first : Ends = record o { link = g.L.Link.told c.args.link.now; records = g.J.Journal.records c.args.journal.now } in
    let last : Ends = record o { link = g.L.Link.told c.hear.new.link; records = g.J.Journal.records c.hear.new.journal } in
    Stops-by (SomeReacts T F q Tick c.in-Ok.replies) (SomeTurns T p (Came Tick ∷ []))
    (λ stored sends some. (some.0, both-halves T F p q some.0 Tick c.in-Ok.replies c.in-Ok.ensures.replies stored sends some.1)) first last [] [] c.in-Err.status
    ((rw c.as_slice.ensures at c.in-Err.ensures.stops) o)
