-- A script in its grammar has no line outside it.
use Rattle.std.proofs.Common.{ℕ, List, Option, subst}
use Rattle.cmd_replay.specs.Replay.{IsReplay}
use Rattle.hc_member.specs.declared.setup.Setup.{Setup}
use Rattle.cmd_replay.proofs.Replicas.{runs-member, runs-running}
use Rattle.cmd_replay.proofs.Replays.{complete-of, nothing-of}
use Rattle.cmd_replay.proofs.replaying.replay.Goals as goal

pub run_lines-requires-clause-runs : goal.run_lines-requires-clause-runs
run_lines-requires-clause-runs g c = runs-running _ _ c.in-Ok.replica c.in-Ok.ensures

pub run_lines-requires-clause-begun : goal.run_lines-requires-clause-begun
run_lines-requires-clause-begun g c = runs-member _ _ c.in-Ok.replica c.in-Ok.ensures

-- without memory for the replica nothing was done
pub returns-in_default-clause-ran : goal.returns-in_default-clause-ran
returns-in_default-clause-ran g c = nothing-of c.args.setup (g.S.Source.left c.args.source.now) (g.K.Sink.written c.args.sink.now)

pub returns-clause-ran : goal.returns-clause-ran
returns-clause-ran g c =
    subst (λ (s : Setup). IsReplay s (g.S.Source.left c.args.source.now) (g.S.Source.left c.run_lines.new.source) (g.K.Sink.written c.args.sink.now) (g.K.Sink.written c.run_lines.new.sink) c.run_lines.result) c.in-Ok.ensures.setup c.run_lines.ensures.ran

pub returns-clause-complete : goal.returns-clause-complete
returns-clause-complete g c = λ script is good source sink.
    let ran = subst (λ (x : Option (List ℕ)). IsReplay c.in-Ok.replica.setup x (g.S.Source.left c.run_lines.new.source) (g.K.Sink.written c.args.sink.now) (g.K.Sink.written c.run_lines.new.sink) c.run_lines.result) is c.run_lines.ensures.ran in
    let caused = c.run_lines.ensures.caused in
    complete-of c.in-Ok.replica.setup script _ _ _ c.run_lines.result good ran (λ e. source (caused.source e)) (λ e. sink (caused.sink e))
