use Rattle.std.proofs.Common.{ℕ, List, [], ◌∷◌, length, inl, sym, subst, ap, refl, false, arith}
use Rattle.cmd_loop.specs.Ends.{Ends}
use Rattle.cmd_client.specs.Caller.{talk_of}
use Rattle.cmd_client.specs.Outside.{around}
use Rattle.cmd_client.specs.Lines.{MakesLine, StopsLine}
use Rattle.cmd_client.specs.Stops.{Completes, StopsCall}
use Rattle.cmd_client.specs.Talk.{Asked, Talk}
use Rattle.cmd_client.proofs.Bodies.{body-short}
use Rattle.cmd_client.proofs.Lines.{asks-for, is-nil, isn't-nil, makes-nothing, makes-one, stops-one}
use Rattle.cmd_client.proofs.Passing.{talks-none}
use Rattle.cmd_client.proofs.Talks.{map-err, map-ok}
use Rattle.cmd_client.proofs.caller.Caller.run_line.Goals as goal

pub returns-then-is_empty-clause-made : goal.returns-then-is_empty-clause-made
returns-then-is_empty-clause-made g c = λ o.
    let t : Talk = talk_of c.args.self.now in
    let a : Ends = (around o (g.K.Sink.written c.args.sink.now) (g.L.Link.told c.args.link.now) (g.C.Clock.left c.args.clock.now)) in
    subst (λ (line : List ℕ). MakesLine c.args.self.now.policy line c.args.self.now.room c.args.self.now.room t t a a) (sym (is-nil c.args.line.now c.is_empty.result c.is_empty.ensures c.if-is_empty.true))
    (makes-nothing c.args.self.now.policy c.args.self.now.room t a c.requires.none)

pub returns-in-Err-Outside-clause-stops : goal.returns-in-Err-Outside-clause-stops
returns-in-Err-Outside-clause-stops g c = λ o.
    record {
      count = refl;
      nonempty = isn't-nil c.args.line.now c.is_empty.result c.is_empty.ensures c.if-is_empty.false;
      outside = c.client_line.ensures.outside (cc (c.in-Err-Outside.is, c.in-Err-Outside.field-0-is));
      passed = talks-none (around o (g.K.Sink.written c.args.sink.now) (g.L.Link.told c.args.link.now) (g.C.Clock.left c.args.clock.now));
    }

pub returns-in-Err-Memory-clause-stops : goal.returns-in-Err-Memory-clause-stops
returns-in-Err-Memory-clause-stops g c = λ o. inl (talks-none (around o (g.K.Sink.written c.args.sink.now) (g.L.Link.told c.args.link.now) (g.C.Clock.left c.args.clock.now)))

pub make_call-requires-clause-short : goal.make_call-requires-clause-short
make_call-requires-clause-short g c =
    let short = body-short c.args.line.now c.in-Ok.call c.in-Ok.ensures.found in
    let same = ap (λ (l : List ℕ). length l) c.as_slice.ensures in
    omega (arith, short, same, c.requires.short)

pub returns-clause-made : goal.returns-clause-made
returns-clause-made g c =
    let call : Asked = record { policy = c.policy_of-policy.result; body = c.as_slice.result.now } in
    let some = isn't-nil c.args.line.now c.is_empty.result c.is_empty.ensures c.if-is_empty.false in
    let asks = asks-for c.args.self.now.policy c.args.line.now c.in-Ok.call c.policy_of-policy.result c.as_slice.result.now c.in-Ok.ensures.found c.policy_of-policy.ensures c.as_slice.ensures in
    let first : Talk = talk_of c.args.self.now in
    let last : Talk = talk_of c.make_call.new.self in
    map-ok c.make_call.result ((o : Ends) → Completes (call ∷ []) c.args.self.now.room c.make_call.new.self.room first last (around o (g.K.Sink.written c.args.sink.now) (g.L.Link.told c.args.link.now) (g.C.Clock.left c.args.clock.now)) (around o (g.K.Sink.written c.make_call.new.sink) (g.L.Link.told c.make_call.new.link) (g.C.Clock.left c.make_call.new.clock)))
    ((o : Ends) → MakesLine c.args.self.now.policy c.args.line.now c.args.self.now.room c.make_call.new.self.room first last (around o (g.K.Sink.written c.args.sink.now) (g.L.Link.told c.args.link.now) (g.C.Clock.left c.args.clock.now)) (around o (g.K.Sink.written c.make_call.new.sink) (g.L.Link.told c.make_call.new.link) (g.C.Clock.left c.make_call.new.clock)))
    (λ made o. makes-one c.args.self.now.policy c.args.line.now call c.args.self.now.room c.make_call.new.self.room first last (around o (g.K.Sink.written c.args.sink.now) (g.L.Link.told c.args.link.now) (g.C.Clock.left c.args.clock.now)) (around o (g.K.Sink.written c.make_call.new.sink) (g.L.Link.told c.make_call.new.link) (g.C.Clock.left c.make_call.new.clock)) some asks (made o)) c.make_call.ensures.done

pub returns-clause-stops : goal.returns-clause-stops
returns-clause-stops g c =
    let call : Asked = record { policy = c.policy_of-policy.result; body = c.as_slice.result.now } in
    let some = isn't-nil c.args.line.now c.is_empty.result c.is_empty.ensures c.if-is_empty.false in
    let asks = asks-for c.args.self.now.policy c.args.line.now c.in-Ok.call c.policy_of-policy.result c.as_slice.result.now c.in-Ok.ensures.found c.policy_of-policy.ensures c.as_slice.ensures in
    let first : Talk = talk_of c.args.self.now in
    map-err c.make_call.result (λ status. (o : Ends) → StopsCall call c.args.self.now.room first (around o (g.K.Sink.written c.args.sink.now) (g.L.Link.told c.args.link.now) (g.C.Clock.left c.args.clock.now)) (around o (g.K.Sink.written c.make_call.new.sink) (g.L.Link.told c.make_call.new.link) (g.C.Clock.left c.make_call.new.clock)) status)
    (λ status. (o : Ends) → StopsLine c.args.self.now.policy c.args.line.now c.args.number c.args.self.now.room first (around o (g.K.Sink.written c.args.sink.now) (g.L.Link.told c.args.link.now) (g.C.Clock.left c.args.clock.now)) (around o (g.K.Sink.written c.make_call.new.sink) (g.L.Link.told c.make_call.new.link) (g.C.Clock.left c.make_call.new.clock)) status)
    (λ status stops o. stops-one c.args.self.now.policy c.args.line.now c.args.number call c.args.self.now.room first (around o (g.K.Sink.written c.args.sink.now) (g.L.Link.told c.args.link.now) (g.C.Clock.left c.args.clock.now)) (around o (g.K.Sink.written c.make_call.new.sink) (g.L.Link.told c.make_call.new.link) (g.C.Clock.left c.make_call.new.clock)) status some asks (stops o)) c.make_call.ensures.stops
