use Rattle.std.proofs.Common.{◌∷◌, [], false}
use Rattle.cmd_loop.specs.Ends.{Ends}
use Rattle.cmd_client.specs.Talk.{Asked, Talk, talk}
use Rattle.cmd_client.specs.Caller.{talk_of}
use Rattle.cmd_client.specs.Outside.{around}
use Rattle.cmd_client.specs.Stops.{Completes, StopsCall, StopsTalk}
use Rattle.cmd_client.proofs.Talks.{call-stops, completes, map-err, map-ok, talk-stops}
use Rattle.cmd_client.proofs.caller.Caller.make_call.Goals as goal

pub returns-in-Err-clause-stops : goal.returns-in-Err-clause-stops
returns-in-Err-clause-stops g c = λ o.
    c.in-Err.ensures.stops c.args.self.now.ticker (record o { clock = g.C.Clock.left c.args.clock.now; written = g.K.Sink.written c.args.sink.now }) c.args.self.now.room

pub returns-clause-done : goal.returns-clause-done
returns-clause-done g c =
    let call : Asked = record { policy = c.args.policy; body = c.args.body.now } in
    let first : Talk = talk_of c.args.self.now in
    let begun : Talk = talk c.begin_call.new.session c.args.self.now.ticker false in
    let last : Talk = talk_of c.converse.new.self in
    map-ok c.converse.result ((o : Ends) → Completes [] c.args.self.now.room c.converse.new.self.room begun last (around o (g.K.Sink.written c.args.sink.now) (g.L.Link.told c.begin_call.new.link) (g.C.Clock.left c.args.clock.now)) (around o (g.K.Sink.written c.converse.new.sink) (g.L.Link.told c.converse.new.link) (g.C.Clock.left c.converse.new.clock)))
    ((o : Ends) → Completes (call ∷ []) c.args.self.now.room c.converse.new.self.room first last (around o (g.K.Sink.written c.args.sink.now) (g.L.Link.told c.args.link.now) (g.C.Clock.left c.args.clock.now)) (around o (g.K.Sink.written c.converse.new.sink) (g.L.Link.told c.converse.new.link) (g.C.Clock.left c.converse.new.clock)))
    (λ rest o. completes first begun last (around o (g.K.Sink.written c.args.sink.now) (g.L.Link.told c.args.link.now) (g.C.Clock.left c.args.clock.now)) (around o (g.K.Sink.written c.args.sink.now) (g.L.Link.told c.begin_call.new.link) (g.C.Clock.left c.args.clock.now)) (around o (g.K.Sink.written c.converse.new.sink) (g.L.Link.told c.converse.new.link) (g.C.Clock.left c.converse.new.clock)) call c.args.self.now.room c.converse.new.self.room
    (c.in_default.ensures.went c.args.self.now.ticker (record o { clock = g.C.Clock.left c.args.clock.now; written = g.K.Sink.written c.args.sink.now })) (rest o)) c.converse.ensures.done

pub returns-clause-stops : goal.returns-clause-stops
returns-clause-stops g c =
    let call : Asked = record { policy = c.args.policy; body = c.args.body.now } in
    let first : Talk = talk_of c.args.self.now in
    let begun : Talk = talk c.begin_call.new.session c.args.self.now.ticker false in
    map-err c.converse.result (λ status. (o : Ends) → StopsTalk [] c.args.self.now.room begun (around o (g.K.Sink.written c.args.sink.now) (g.L.Link.told c.begin_call.new.link) (g.C.Clock.left c.args.clock.now)) (around o (g.K.Sink.written c.converse.new.sink) (g.L.Link.told c.converse.new.link) (g.C.Clock.left c.converse.new.clock)) status)
    (λ status. (o : Ends) → StopsCall call c.args.self.now.room first (around o (g.K.Sink.written c.args.sink.now) (g.L.Link.told c.args.link.now) (g.C.Clock.left c.args.clock.now)) (around o (g.K.Sink.written c.converse.new.sink) (g.L.Link.told c.converse.new.link) (g.C.Clock.left c.converse.new.clock)) status)
    (λ status stops o. talk-stops call c.args.self.now.room first (around o (g.K.Sink.written c.args.sink.now) (g.L.Link.told c.args.link.now) (g.C.Clock.left c.args.clock.now)) (around o (g.K.Sink.written c.converse.new.sink) (g.L.Link.told c.converse.new.link) (g.C.Clock.left c.converse.new.clock)) status (call-stops first begun (around o (g.K.Sink.written c.args.sink.now) (g.L.Link.told c.args.link.now) (g.C.Clock.left c.args.clock.now)) (around o (g.K.Sink.written c.args.sink.now) (g.L.Link.told c.begin_call.new.link) (g.C.Clock.left c.args.clock.now)) (around o (g.K.Sink.written c.converse.new.sink) (g.L.Link.told c.converse.new.link) (g.C.Clock.left c.converse.new.clock)) call c.args.self.now.room status
    (c.in_default.ensures.went c.args.self.now.ticker (record o { clock = g.C.Clock.left c.args.clock.now; written = g.K.Sink.written c.args.sink.now })) (stops o))) c.converse.ensures.stops
