-- A loop over a node that begins is one over the turns of the replica that begins.
use Rattle.cmd_loop.proofs.Passing.{silent}
use Rattle.cmd_loop.proofs.Weaker.{serves-nothing, serves-weaker}
use Rattle.cmd_replica.specs.Replica.{ReplicaServes, ReplicaServesAll}
use Rattle.cmd_replica.proofs.Begun.{begins, begun-at, begun-led, begun-serves, begun-serves-all}
use Rattle.cmd_replica.proofs.Calm.{serves-unfailed}
use Rattle.cmd_replica.proofs.Crossing.{unseen_keyless}
use Rattle.cmd_replica.proofs.serving.serve_replica.Goals as goal

pub returns-in_default-clause-ran : goal.returns-in_default-clause-ran
returns-in_default-clause-ran g c o =
    let s = c.args.setup in
    let d = c.args.from.state in
    serves-nothing (ReplicaServesAll s d) (ReplicaServes s d) (ReplicaServes s d) c.args.pace
    (record o { link = g.L.Link.told c.args.link.now; clock = g.C.Clock.left c.args.clock.now; records = g.J.Journal.records c.args.journal.now })

-- the closures ask what their calls of a node rest on: its service may be shared by threads, and its tickets sent
pub serve-requires-clause-fresh : goal.serve-requires-clause-fresh
serve-requires-clause-fresh g c =
    let ticket = c.type_bounds.send-V-Ticket in
    let service = c.type_bounds.sync-V in (
      (begins c.args.setup c.args.from.state, begun-at c.args.setup c.args.from.state c.in-Ok.node c.in-Ok.ensures),
      λ node live. ((live, (record { owned = ticket.owned; leaving = λ k. unseen_keyless _ }, record { shared = service.shared })), λ result after made. made),
      λ node event live. ((live, (record { owned = ticket.owned; leaving = λ k. unseen_keyless _ }, record { shared = service.shared })), λ result after made. made),
    )

pub serve-requires-clause-recorded : goal.serve-requires-clause-recorded
serve-requires-clause-recorded g c = begun-led (g.J.Journal.records c.args.journal.now) c.args.setup c.args.from.state c.in-Ok.node c.in-Ok.ensures c.requires.recorded

pub returns-clause-ran : goal.returns-clause-ran
returns-clause-ran g c o =
    let s = c.args.setup in
    let d = c.args.from.state in
    let last = c.serve.new.party in
    serves-weaker _ (ReplicaServesAll s d) _ (ReplicaServes s d) _ (ReplicaServes s d)
    (λ happened stored sent right. begun-serves-all s d c.in-Ok.node last.node last.left happened stored sent c.in-Ok.ensures right.0 right.1)
    (λ happened stored sent right. begun-serves s d c.in-Ok.node last.node last.left happened stored sent c.in-Ok.ensures right)
    (λ happened stored sent right. begun-serves s d c.in-Ok.node right.0.node right.0.left happened stored sent c.in-Ok.ensures right.1)
    c.args.pace (record o { link = g.L.Link.told c.args.link.now; clock = g.C.Clock.left c.args.clock.now; records = g.J.Journal.records c.args.journal.now })
    (record o { link = g.L.Link.told c.serve.new.link; clock = g.C.Clock.left c.serve.new.clock; records = g.J.Journal.records c.serve.new.journal })
    c.serve.result (c.serve.ensures.ran o)

pub returns-clause-complete : goal.returns-clause-complete
returns-clause-complete g c =
    serves-unfailed _ _ _ c.args.pace
    (record silent { link = g.L.Link.told c.args.link.now; clock = g.C.Clock.left c.args.clock.now; records = g.J.Journal.records c.args.journal.now })
    (record silent { link = g.L.Link.told c.serve.new.link; clock = g.C.Clock.left c.serve.new.clock; records = g.J.Journal.records c.serve.new.journal })
    (g.L.Link.faults c.args.link.now) (g.L.Link.faults c.serve.new.link) (g.C.Clock.faults c.args.clock.now) (g.C.Clock.faults c.serve.new.clock)
    (g.J.Journal.faults c.args.journal.now) (g.J.Journal.faults c.serve.new.journal)
    c.serve.result (c.serve.ensures.ran silent) c.serve.ensures.caused
