use Rattle.std.proofs.Common.{[], ◌∷◌}
use Rattle.r2_link.proofs.Faults.{then-Rose}
use Rattle.r2_client.specs.State.{new_session}
use Rattle.cmd_loop.specs.Ends.{Ends}
use Rattle.cmd_client.specs.Outside.{beside}
use Rattle.cmd_client.proofs.Grammar.{completes}
use Rattle.cmd_loop.proofs.Passing.{silent}
use Rattle.cmd_client.proofs.Passing.{Passes-clock}
use Rattle.cmd_client.proofs.Scripts.{calls-of, runs-as}
use Rattle.cmd_client.proofs.client.call_client.Goals as goal

pub returns-clause-complete : goal.returns-clause-complete
returns-clause-complete g c = λ script told is source sink link clock.
    completes c.new-client.result.policy c.new-client.result.room (g.S.Source.left c.args.source.now) (g.S.Source.left c.run_lines.new.source) _ _ _
    c.run_lines.result script told is (c.run_lines.ensures.ran silent)
    (λ e. source (c.run_lines.ensures.caused.source e)) (λ e. sink (c.run_lines.ensures.caused.sink e)) (λ e. link (c.run_lines.ensures.caused.link e))
    (λ e. clock (then-Rose (g.C.Clock.faults c.args.clock.now) (g.C.Clock.faults c.now.new.self) (g.C.Clock.faults c.run_lines.new.clock) c.in-Ok.ensures.steady (c.run_lines.ensures.caused.clock e)))

pub returns-clause-ran : goal.returns-clause-ran
returns-clause-ran g c = λ o.
    let old : Ends = record o { source = g.S.Source.left c.args.source.now; link = g.L.Link.told c.args.link.now; clock = g.C.Clock.left c.args.clock.now; written = g.K.Sink.written c.args.sink.now } in
    let new : Ends = record o { source = g.S.Source.left c.run_lines.new.source; link = g.L.Link.told c.run_lines.new.link; clock = g.C.Clock.left c.run_lines.new.clock; written = g.K.Sink.written c.run_lines.new.sink } in
    let between : Ends = record old { clock = g.C.Clock.left c.now.new.self } in
    calls-of c.args.calling c.args.pace old new c.run_lines.result (record {
      start = c.in-Ok.start;
      between = between;
      began = Passes-clock old (g.C.Clock.left c.args.clock.now) (g.C.Clock.left c.now.new.self) (c.in-Ok.start ∷ []) c.in-Ok.ensures.moment;
      lines = runs-as c.new-client.result.policy c.args.calling.policy c.new-client.result.room c.args.pace.turns c.new-client.result.session (new_session c.args.calling.listen c.args.calling.to c.args.calling.wait c.args.calling.tries)
          c.new-client.result.ticker (record { start = c.in-Ok.start; tick_ms = c.args.pace.tick_ms; reached = 0 })
          c.new-client.ensures.policy c.new-client.ensures.room c.new-client.ensures.session c.new-client.ensures.ticker
          between.source new.source (beside between) (beside new) c.run_lines.result (c.run_lines.ensures.ran (beside o));
    })
