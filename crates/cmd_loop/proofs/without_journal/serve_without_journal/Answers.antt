use Rattle.std.proofs.Common.{None}
use Rattle.cmd_loop.specs.Ends.{Ends}
use Rattle.cmd_loop.proofs.Weaker.{serves-unstored, serves-weaker}
use Rattle.cmd_loop.proofs.without_journal.serve_without_journal.Goals as goal

pub returns-clause-ran : goal.returns-clause-ran
returns-clause-ran g c o =
    let a : Ends = record o { link = g.L.Link.told c.args.link.now; clock = g.C.Clock.left c.args.clock.now; records = None } in
    let b : Ends = record o { link = g.L.Link.told c.serve.new.link; clock = g.C.Clock.left c.serve.new.clock; records = None } in
    serves-unstored _ _ _ (λ happened stored sends right. right.0) (λ happened stored sends right. right.0) (λ happened stored sends right. right.0) c.args.pace a b o.records c.serve.result
    (serves-weaker _ _ _ _ _ _ (λ happened stored sends right. right.0) (λ happened stored sends right. right) (λ happened stored sends right. (right.1.0, (right.0.party, right.1.1))) c.args.pace a b c.serve.result (c.serve.ensures.ran o))
