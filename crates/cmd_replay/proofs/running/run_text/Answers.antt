-- An empty text does nothing; another is read as a line, and run.
use Rattle.cmd_replay.specs.Replica.{member_of}
use Rattle.cmd_replay.proofs.Replicas.{runs-member, runs-own}
use Rattle.cmd_replay.proofs.Runs.{ran-nothing, ran-line, stops-line, empty_text, some_text}
use Rattle.cmd_replay.proofs.running.run_text.Goals as goal

pub returns-then-is_empty-clause-ran : goal.returns-then-is_empty-clause-ran
returns-then-is_empty-clause-ran g c =
    ran-nothing c.args.replica.now.setup (member_of c.args.replica.now) c.args.text.now (g.K.Sink.written c.args.sink.now)
    (empty_text c.args.text.now c.is_empty.result c.is_empty.ensures c.if-is_empty.true)

pub returns-clause-ran : goal.returns-clause-ran
returns-clause-ran g c =
    ran-line c.args.replica.now.setup (member_of c.args.replica.now) (member_of c.run_line.new.replica) c.args.text.now c.in-Ok.line _ _
    (some_text c.args.text.now c.is_empty.result c.is_empty.ensures c.if-is_empty.false) c.in-Ok.ensures.found (runs-member _ _ _ c.in_default.ensures.runs) c.in_default.ensures.whole

pub returns-in-Err-clause-stops : goal.returns-in-Err-clause-stops
returns-in-Err-clause-stops g c =
    stops-line c.args.replica.now.setup (member_of c.args.replica.now) c.args.text.now c.in-Ok.line c.args.number _ _ _ _ c.in-Err.status c.in-Err.ensures.stops
    (some_text c.args.text.now c.is_empty.result c.is_empty.ensures c.if-is_empty.false) c.in-Ok.ensures.found c.in-Err.ensures.prefix

pub returns-clause-runs : goal.returns-clause-runs
returns-clause-runs g c = runs-own _ _ _ c.in_default.ensures.runs
