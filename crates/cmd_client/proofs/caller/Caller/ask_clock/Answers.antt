use Rattle.std.proofs.Common.{◌≡◌, Some, None, refl, sym, ◌∙◌, subst, ap, [], true, false, nat_lt}
use Rattle.r2_link.proofs.Links.{LinkPasses-nothing}
use Rattle.r2_link.proofs.Streams.{Appends-nil}
use Rattle.r2_base.specs.declared.event.Event.TheVariants.{Tick}
use Rattle.r2_client.specs.State.{SessionState}
use Rattle.r2_client.specs.Session.{stepped, unchanged}
use Rattle.cmd_loop.specs.Events.{elapsed}
use Rattle.cmd_client.specs.Talk.{IsOpen, stepped_by}
use Rattle.cmd_client.specs.Caller.{heard_of}
use Rattle.cmd_client.specs.Outside.{around}
use Rattle.cmd_client.proofs.Passing.{talks-asked, talks-tells}
use Rattle.cmd_client.proofs.Rounds.{is-due, misses, not-due, stays, stops-line-tells, stops-telling, tick-times-out, timed-out, times-out, went-tells}
use Rattle.cmd_client.proofs.caller.Caller.ask_clock.Goals as goal

pub returns-in_default-clause-stops : goal.returns-in_default-clause-stops
returns-in_default-clause-stops g c = λ o room.
    let p = g.L.Link.told c.args.link.now in
    let w = g.K.Sink.written c.args.sink.now in
    let k = g.C.Clock.left c.args.clock.now in
    let e = g.C.Clock.left c.now.new.self in
    misses (heard_of c.args.self.now) (around o w p k) (around o w p e) room refl refl
    (talks-asked (record o { link = p; written = w }) k e c.in_default.ensures.moment)

pub returns-then-not-pass_tick-clause-went : goal.returns-then-not-pass_tick-clause-went
returns-then-not-pass_tick-clause-went g c = λ o.
    let p = g.L.Link.told c.args.link.now in
    let w = g.K.Sink.written c.args.sink.now in
    let a = g.C.Clock.left c.args.clock.now in
    let e = g.C.Clock.left c.now.new.self in
    let k = c.args.self.now.ticker in
    let s = c.args.self.now.session in
    let moment = c.in-Ok.moment in
    let no : nat_lt k.reached (elapsed k.tick_ms k.start moment) ≡ false = sym c.pass_tick.ensures.due ∙ c.if-not-pass_tick.true in (
      moment,
      went-tells s s k c.pass_tick.new.self moment None (unchanged s) (around o w p a) (around o w p e)
          c.pass_tick.ensures.counted (ap (stepped_by s) (not-due k moment no)) refl refl
          (talks-tells o p p a e w w moment [] [] c.in-Ok.ensures.moment (LinkPasses-nothing p) (Appends-nil w)),
    )

pub returns-in-Err-clause-stops : goal.returns-in-Err-clause-stops
returns-in-Err-clause-stops g c = λ o room.
    let k = c.args.self.now.ticker in
    let moment = c.in-Ok.moment in
    let yes : nat_lt k.reached (elapsed k.tick_ms k.start moment) ≡ true = sym c.pass_tick.ensures.due ∙ c.if-not-pass_tick.false in
    stops-telling o c.args.self.now.session k moment (g.L.Link.told c.args.link.now) (g.L.Link.told c.make_step.new.link)
    (g.C.Clock.left c.args.clock.now) (g.C.Clock.left c.now.new.self) (g.K.Sink.written c.args.sink.now) room c.in-Err.status
    (is-due k moment yes) c.in-Ok.ensures.moment c.in-Err.ensures.stops

pub returns-in-Ok-print_end-clause-stops : goal.returns-in-Ok-print_end-clause-stops
returns-in-Ok-print_end-clause-stops g c = λ o room.
    let k = c.args.self.now.ticker in
    let s = c.args.self.now.session in
    let moment = c.in-Ok.moment in
    let yes : nat_lt k.reached (elapsed k.tick_ms k.start moment) ≡ true = sym c.pass_tick.ensures.due ∙ c.if-not-pass_tick.false in
    let made = c.in-Ok-make_step.ensures.made in
    let ended : Some c.in-Some.end ≡ (stepped s Tick).step.end = sym c.in-Some.is ∙ made.ended in
    times-out o s c.make_step.new.session k c.pass_tick.new.self moment c.in-Some.end (g.L.Link.told c.args.link.now) (g.L.Link.told c.make_step.new.link)
    (g.C.Clock.left c.args.clock.now) (g.C.Clock.left c.now.new.self) (g.K.Sink.written c.args.sink.now) (g.K.Sink.written c.print_end.new.sink) room
    (is-due k moment yes) c.pass_tick.ensures.counted c.in-Ok.ensures.moment made.passed made.session ended
    (timed-out s (stepped s Tick) c.in-Some.end (sym ended) (tick-times-out s)) c.in-Ok-print_end.ensures.whole

pub returns-in-Some-clause-stops : goal.returns-in-Some-clause-stops
returns-in-Some-clause-stops g c = λ o room.
    let k = c.args.self.now.ticker in
    let s = c.args.self.now.session in
    let moment = c.in-Ok.moment in
    let yes : nat_lt k.reached (elapsed k.tick_ms k.start moment) ≡ true = sym c.pass_tick.ensures.due ∙ c.if-not-pass_tick.false in
    let made = c.in-Ok-make_step.ensures.made in
    let ended : Some c.in-Some.end ≡ (stepped s Tick).step.end = sym c.in-Some.is ∙ made.ended in
    stops-line-tells o s k moment c.in-Some.end (g.L.Link.told c.args.link.now) (g.L.Link.told c.make_step.new.link)
    (g.C.Clock.left c.args.clock.now) (g.C.Clock.left c.now.new.self) (g.K.Sink.written c.args.sink.now) (g.K.Sink.written c.print_end.new.sink) room
    (g.K.Sink.faults c.args.sink.now) (g.K.Sink.faults c.print_end.new.sink) c.in-Err-print_end.status
    (is-due k moment yes) c.in-Ok.ensures.moment made.passed ended c.in-Err-print_end.ensures.prefix c.in-Err-print_end.ensures.stops

pub returns-clause-went : goal.returns-clause-went
returns-clause-went g c = λ o.
    let p = g.L.Link.told c.args.link.now in
    let q = g.L.Link.told c.make_step.new.link in
    let w = g.K.Sink.written c.args.sink.now in
    let a = g.C.Clock.left c.args.clock.now in
    let e = g.C.Clock.left c.now.new.self in
    let k = c.args.self.now.ticker in
    let s = c.args.self.now.session in
    let moment = c.in-Ok.moment in
    let yes : nat_lt k.reached (elapsed k.tick_ms k.start moment) ≡ true = sym c.pass_tick.ensures.due ∙ c.if-not-pass_tick.false in
    let made = c.in-Ok-make_step.ensures.made in
    let ended : None ≡ (stepped s Tick).step.end = sym c.in-None.is ∙ made.ended in (
      moment,
      went-tells s c.make_step.new.session k c.pass_tick.new.self moment None (stepped s Tick) (around o w p a) (around o w q e)
          c.pass_tick.ensures.counted (ap (stepped_by s) (is-due k moment yes)) made.session ended
          (talks-tells o p q a e w w moment (stepped s Tick).step.sends [] c.in-Ok.ensures.moment made.passed (Appends-nil w)),
    )

pub returns-clause-stays_ended : goal.returns-clause-stays_ended
returns-clause-stays_ended g c = λ none.
    let s = c.args.self.now.session in
    let made = c.in-Ok-make_step.ensures.made in
    let ended : (stepped s Tick).step.end ≡ None = sym made.ended ∙ c.in-None.is in
    let both = stays s (stepped s Tick) ended (tick-times-out s) in
    ap (λ (x : SessionState). x.open_call) made.session ∙ both.1 none

pub returns-clause-goes_on : goal.returns-clause-goes_on
returns-clause-goes_on g c = λ waits.
    let s = c.args.self.now.session in
    let made = c.in-Ok-make_step.ensures.made in
    let ended : (stepped s Tick).step.end ≡ None = sym made.ended ∙ c.in-None.is in
    let both = stays s (stepped s Tick) ended (tick-times-out s) in
    subst (λ (x : SessionState). IsOpen x.open_call) (sym made.session) (both.0 waits)
