-- A loop over a new server is one over the turns of the server that begins.
use Rattle.cmd_loop.specs.Plain.{Unstored}
use Rattle.cmd_server.specs.Plain.{PlainSends}
use Rattle.cmd_server.proofs.PlainTurns.{plain-sends}
use Rattle.cmd_loop.proofs.Passing.{silent}
use Rattle.cmd_loop.proofs.Weaker.{serves-calm, serves-nothing, serves-weaker}
use Rattle.cmd_loop.specs.Happenings.{events_of}
use Rattle.cmd_server.proofs.serving.serve_plain.Goals as goal

pub returns-in_default-clause-ran : goal.returns-in_default-clause-ran
returns-in_default-clause-ran g c o =
    let rule = Unstored (PlainSends c.args.me c.args.router) in
    serves-nothing rule rule rule c.args.pace (record o { link = g.L.Link.told c.args.link.now; clock = g.C.Clock.left c.args.clock.now })

pub returns-clause-ran : goal.returns-clause-ran
returns-clause-ran g c o =
    let rule = Unstored (PlainSends c.args.me c.args.router) in
    let begun = c.in-Ok.ensures in
    let last = c.serve_without_journal.new.party in
    serves-weaker _ rule _ rule _ rule
    (λ happened stored sends right. (right.0, plain-sends c.args.me c.args.router c.in-Ok.server last.party.server (events_of happened) sends begun right.1))
    (λ happened stored sends right. (right.0, plain-sends c.args.me c.args.router c.in-Ok.server last.party.server (events_of happened) sends begun right.1))
    (λ happened stored sends right. (right.0, plain-sends c.args.me c.args.router c.in-Ok.server right.1.0.server (events_of happened) sends begun right.1.1))
    c.args.pace (record o { link = g.L.Link.told c.args.link.now; clock = g.C.Clock.left c.args.clock.now })
    (record o { link = g.L.Link.told c.serve_without_journal.new.link; clock = g.C.Clock.left c.serve_without_journal.new.clock })
    c.serve_without_journal.result (c.serve_without_journal.ensures.ran o)

pub returns-clause-complete : goal.returns-clause-complete
returns-clause-complete g c =
    let clock = g.C.Clock.left c.args.clock.now in
    let clock' = g.C.Clock.left c.serve_without_journal.new.clock in
    serves-calm _ _ _ c.args.pace (record silent { link = g.L.Link.told c.args.link.now; clock = clock }) (record silent { link = g.L.Link.told c.serve_without_journal.new.link; clock = clock' })
    (g.L.Link.faults c.args.link.now) (g.L.Link.faults c.serve_without_journal.new.link) (g.C.Clock.faults c.args.clock.now) (g.C.Clock.faults c.serve_without_journal.new.clock)
    c.serve_without_journal.result (c.serve_without_journal.ensures.ran silent) c.serve_without_journal.ensures.caused
