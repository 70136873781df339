use Rattle.std.proofs.Common.{◌-◌, ◌∷◌, ◌++◌, refl, ◌∙◌, [], true, false, arith}
use Rattle.cmd_loop.specs.Ends.{Ends}
use Rattle.cmd_client.specs.Talk.{Hears, Tells}
use Rattle.cmd_client.specs.Caller.{heard_of, talk_of}
use Rattle.cmd_client.specs.Outside.{around}
use Rattle.cmd_client.proofs.Courses.{stops-then}
use Rattle.cmd_client.proofs.Talks.{converse-init, heard-one, round-of, spent}
use Rattle.cmd_client.proofs.caller.Caller.converse.Goals as goal

pub rounds-init : goal.rounds-init
rounds-init g c = record {
  so_far = λ o. converse-init (talk_of c.args.self.now) (around o (g.K.Sink.written c.args.sink.now) (g.L.Link.told c.args.link.now) (g.C.Clock.left c.args.clock.now)) c.args.self.now.room;
  opened = c.requires.opened;
  policy = refl;
  steady = record { source = omega arith; sink = omega arith; link = omega arith; clock = omega arith; disk = omega arith };
}

pub returns-in-Err-clause-stops : goal.returns-in-Err-clause-stops
returns-in-Err-clause-stops g c = λ o.
    let far = c.rounds.invariant.so_far o in
    let clock = g.C.Clock.left c.rounds.clock in
    stops-then (talk_of c.args.self.now) (talk_of c.rounds.self) (around o (g.K.Sink.written c.args.sink.now) (g.L.Link.told c.args.link.now) (g.C.Clock.left c.args.clock.now)) (around o (g.K.Sink.written c.rounds.sink) (g.L.Link.told c.rounds.link) (g.C.Clock.left c.rounds.clock)) (around o (g.K.Sink.written c.hear_item.new.sink) (g.L.Link.told c.hear_item.new.link) (g.C.Clock.left c.rounds.clock))
    far.0 [] [] c.args.self.now.room c.rounds.self.room c.in-Err.status far.1 far.2 far.3
    (c.in-Err.ensures.stops (record o { clock = clock }))

pub returns-in-Err-ask_clock-clause-stops : goal.returns-in-Err-ask_clock-clause-stops
returns-in-Err-ask_clock-clause-stops g c = λ o.
    let far = c.rounds.invariant.so_far o in
    let heard = c.in-Ok.ensures.went (record o { clock = g.C.Clock.left c.rounds.clock }) in
    let first = talk_of c.args.self.now in
    let a : Ends = (around o (g.K.Sink.written c.args.sink.now) (g.L.Link.told c.args.link.now) (g.C.Clock.left c.args.clock.now)) in
    let m : Ends = (around o (g.K.Sink.written c.rounds.sink) (g.L.Link.told c.rounds.link) (g.C.Clock.left c.rounds.clock)) in
    let d : Ends = (around o (g.K.Sink.written c.hear_item.new.sink) (g.L.Link.told c.hear_item.new.link) (g.C.Clock.left c.rounds.clock)) in
    let half = heard-one first (talk_of c.rounds.self) (heard_of c.hear_item.new.self) a m d far.0 heard.0 c.args.self.now.room c.rounds.self.room far.1 far.2 far.3 c.rounds-test.true heard.1 in
    stops-then first (heard_of c.hear_item.new.self) a d (around o (g.K.Sink.written c.ask_clock.new.sink) (g.L.Link.told c.ask_clock.new.link) (g.C.Clock.left c.ask_clock.new.clock))
    (far.0 ++ Hears heard.0 ∷ []) [] [] c.args.self.now.room (c.rounds.self.room - 1) c.in-Err-ask_clock.status half.0 half.1 half.2
    (c.in-Err-ask_clock.ensures.stops o (c.rounds.self.room - 1))

pub returns-then-over-clause-done : goal.returns-then-over-clause-done
returns-then-over-clause-done g c = λ o.
    let far = c.rounds.invariant.so_far o in
    let heard = c.in-Ok.ensures.went (record o { clock = g.C.Clock.left c.rounds.clock }) in
    let told = c.in_default.ensures.went o in
    let round = round-of (talk_of c.args.self.now) (talk_of c.rounds.self) (heard_of c.hear_item.new.self) (talk_of c.ask_clock.new.self)
    (around o (g.K.Sink.written c.args.sink.now) (g.L.Link.told c.args.link.now) (g.C.Clock.left c.args.clock.now)) (around o (g.K.Sink.written c.rounds.sink) (g.L.Link.told c.rounds.link) (g.C.Clock.left c.rounds.clock)) (around o (g.K.Sink.written c.hear_item.new.sink) (g.L.Link.told c.hear_item.new.link) (g.C.Clock.left c.rounds.clock)) (around o (g.K.Sink.written c.ask_clock.new.sink) (g.L.Link.told c.ask_clock.new.link) (g.C.Clock.left c.ask_clock.new.clock))
    far.0 heard.0 told.0 c.args.self.now.room c.rounds.self.room far.1 far.2 far.3 c.rounds-test.true heard.1 told.1 in
    record { steps = (far.0 ++ Hears heard.0 ∷ []) ++ Tells told.0 ∷ []; went = round.0; asks = round.1; none = c.in_default.ensures.stays_ended (c.in-Ok.ensures.ended c.if-over.true); counted = omega (arith, round.2, c.in-Ok.ensures.counted, c.in_default.ensures.room) }

pub rounds-preserved : goal.rounds-preserved
rounds-preserved g c = record {
  so_far = λ o.
      let far = c.rounds.invariant.so_far o in
      let heard = c.in-Ok.ensures.went (record o { clock = g.C.Clock.left c.rounds.clock }) in
      let told = c.in_default.ensures.went o in
      let round = round-of (talk_of c.args.self.now) (talk_of c.rounds.self) (heard_of c.hear_item.new.self) (talk_of c.ask_clock.new.self)
      (around o (g.K.Sink.written c.args.sink.now) (g.L.Link.told c.args.link.now) (g.C.Clock.left c.args.clock.now)) (around o (g.K.Sink.written c.rounds.sink) (g.L.Link.told c.rounds.link) (g.C.Clock.left c.rounds.clock)) (around o (g.K.Sink.written c.hear_item.new.sink) (g.L.Link.told c.hear_item.new.link) (g.C.Clock.left c.rounds.clock)) (around o (g.K.Sink.written c.ask_clock.new.sink) (g.L.Link.told c.ask_clock.new.link) (g.C.Clock.left c.ask_clock.new.clock))
      far.0 heard.0 told.0 c.args.self.now.room c.rounds.self.room far.1 far.2 far.3 c.rounds-test.true heard.1 told.1 in
      ((far.0 ++ Hears heard.0 ∷ []) ++ Tells told.0 ∷ [], round.0, round.1, omega (arith, round.2, c.in-Ok.ensures.counted, c.in_default.ensures.room));
  opened = c.in_default.ensures.goes_on (c.in-Ok.ensures.goes_on c.if-over.false);
  policy = c.in_default.ensures.policy ∙ c.in-Ok.ensures.policy ∙ c.rounds.invariant.policy;
  steady = record {
    source = omega arith;
    sink = omega (arith, c.rounds.invariant.steady.sink, c.hear_item.ensures.steady.sink, c.ask_clock.ensures.steady.sink);
    link = omega (arith, c.rounds.invariant.steady.link, c.hear_item.ensures.steady.link, c.ask_clock.ensures.steady.link);
    clock = omega (arith, c.rounds.invariant.steady.clock, c.ask_clock.ensures.steady.clock);
    disk = omega arith;
  };
}

pub returns-clause-stops : goal.returns-clause-stops
returns-clause-stops g c = λ o.
    let far = c.rounds.invariant.so_far o in
    spent (talk_of c.args.self.now) (talk_of c.rounds.self) (around o (g.K.Sink.written c.args.sink.now) (g.L.Link.told c.args.link.now) (g.C.Clock.left c.args.clock.now)) (around o (g.K.Sink.written c.rounds.sink) (g.L.Link.told c.rounds.link) (g.C.Clock.left c.rounds.clock))
    far.0 c.args.self.now.room far.1 far.2 (omega (arith, far.3, c.rounds-test.false)) refl refl c.rounds.invariant.opened
