use Rattle.std.proofs.Common.{◌≡◌, Some, None, refl, sym, ◌∙◌, subst, ap, [], false}
use Rattle.r2_link.proofs.Streams.{Appends-nil}
use Rattle.r2_base.specs.declared.event.Event.{Event}
use Rattle.r2_client.specs.Session.{stepped}
use Rattle.r2_client.specs.State.{SessionState}
use Rattle.std.specs.Io.KnownBytes.{Appends}
use Rattle.cmd_loop.specs.Events.{event_of}
use Rattle.cmd_client.specs.Steps.{MakesStep, StopsStep}
use Rattle.cmd_client.specs.Talk.{IsOpen}
use Rattle.cmd_client.specs.Caller.{talk_of}
use Rattle.cmd_client.proofs.Passing.{talks-hears, talks-sends}
use Rattle.cmd_client.proofs.Rounds.{ended-text, hears-ends, over, stops-hearing, stops-line-hears, stops-receiving, waits, went-hears}
use Rattle.cmd_client.proofs.caller.Caller.hear_item.Goals as goal

pub returns-in-Err-clause-stops : goal.returns-in-Err-clause-stops
returns-in-Err-clause-stops g c = λ o.
    let p = g.L.Link.told c.args.link.now in
    let q = g.L.Link.told c.receive_event.new.link in
    let w = g.K.Sink.written c.args.sink.now in
    stops-receiving (talk_of c.args.self.now) (record o { link = p; written = w }) (record o { link = q; written = w }) c.args.self.now.room c.in-Err.status (refl, refl, c.requires.opened) c.requires.some
    (talks-sends (record o { written = w }) p q [] c.in-Err.ensures.failed) c.in-Err.ensures.stops

pub returns-in-Err-make_step-clause-stops : goal.returns-in-Err-make_step-clause-stops
returns-in-Err-make_step-clause-stops g c = λ o.
    let q = g.L.Link.told c.receive_event.new.link in
    let r = g.L.Link.told c.make_step.new.link in
    let got = c.in-Ok.ensures.event in
    let stops = subst (λ (e : Event). StopsStep (stepped c.args.self.now.session e) q r c.in-Err-make_step.status) got.1 c.in-Err-make_step.ensures.stops in
    stops-hearing o c.args.self.now.session c.args.self.now.ticker got.0 (g.L.Link.told c.args.link.now) q r (g.K.Sink.written c.args.sink.now) c.args.self.now.room c.in-Err-make_step.status c.requires.opened c.requires.some got.2 stops

pub returns-in-Ok-print_end-clause-went : goal.returns-in-Ok-print_end-clause-went
returns-in-Ok-print_end-clause-went g c = λ o.
    let p = g.L.Link.told c.args.link.now in
    let q = g.L.Link.told c.receive_event.new.link in
    let r = g.L.Link.told c.make_step.new.link in
    let w = g.K.Sink.written c.args.sink.now in
    let x = g.K.Sink.written c.print_end.new.sink in
    let got = c.in-Ok.ensures.event in
    let made = subst (λ (e : Event). MakesStep (stepped c.args.self.now.session e) c.make_step.new.session c.in-Ok-make_step.end q r) got.1 c.in-Ok-make_step.ensures.made in
    let ended : Some c.in-Some.end ≡ (stepped c.args.self.now.session (event_of got.0)).step.end = sym c.in-Some.is ∙ made.ended in
    let text = subst (Appends w x) (sym (ended-text c.in-Some.end)) c.in-Ok-print_end.ensures.whole in (
      got.0,
      went-hears c.args.self.now.session c.make_step.new.session c.args.self.now.ticker got.0 (Some c.in-Some.end) (record o { link = p; written = w }) (record o { link = r; written = x })
          c.requires.opened made.session ended
          (talks-hears o p q r w x got.0 (stepped c.args.self.now.session (event_of got.0)).step.sends _ got.2 made.passed text),
    )

pub returns-in-Ok-print_end-clause-ended : goal.returns-in-Ok-print_end-clause-ended
returns-in-Ok-print_end-clause-ended g c = λ yes.
    let got = c.in-Ok.ensures.event in
    let r = stepped c.args.self.now.session (event_of got.0) in
    let made = subst (λ (e : Event). MakesStep (stepped c.args.self.now.session e) c.make_step.new.session c.in-Ok-make_step.end (g.L.Link.told c.receive_event.new.link) (g.L.Link.told c.make_step.new.link)) got.1 c.in-Ok-make_step.ensures.made in
    let ended : r.step.end ≡ Some c.in-Some.end = sym made.ended ∙ c.in-Some.is in
    ap (λ (s : SessionState). s.open_call) made.session ∙ over r c.in-Some.end ended (hears-ends c.args.self.now.session got.0 c.requires.opened)

pub returns-in-Some-clause-stops : goal.returns-in-Some-clause-stops
returns-in-Some-clause-stops g c = λ o.
    let q = g.L.Link.told c.receive_event.new.link in
    let r = g.L.Link.told c.make_step.new.link in
    let got = c.in-Ok.ensures.event in
    let made = subst (λ (e : Event). MakesStep (stepped c.args.self.now.session e) c.make_step.new.session c.in-Ok-make_step.end q r) got.1 c.in-Ok-make_step.ensures.made in
    let ended : Some c.in-Some.end ≡ (stepped c.args.self.now.session (event_of got.0)).step.end = sym c.in-Some.is ∙ made.ended in
    stops-line-hears o c.args.self.now.session c.args.self.now.ticker got.0 c.in-Some.end (g.L.Link.told c.args.link.now) q r (g.K.Sink.written c.args.sink.now) (g.K.Sink.written c.print_end.new.sink) c.args.self.now.room
    (g.K.Sink.faults c.args.sink.now) (g.K.Sink.faults c.print_end.new.sink) c.in-Err-print_end.status
    c.requires.opened c.requires.some got.2 made.passed ended c.in-Err-print_end.ensures.prefix c.in-Err-print_end.ensures.stops

pub returns-clause-went : goal.returns-clause-went
returns-clause-went g c = λ o.
    let p = g.L.Link.told c.args.link.now in
    let q = g.L.Link.told c.receive_event.new.link in
    let r = g.L.Link.told c.make_step.new.link in
    let w = g.K.Sink.written c.args.sink.now in
    let got = c.in-Ok.ensures.event in
    let made = subst (λ (e : Event). MakesStep (stepped c.args.self.now.session e) c.make_step.new.session c.in-Ok-make_step.end q r) got.1 c.in-Ok-make_step.ensures.made in
    let ended : None ≡ (stepped c.args.self.now.session (event_of got.0)).step.end = sym c.in-None.is ∙ made.ended in (
      got.0,
      went-hears c.args.self.now.session c.make_step.new.session c.args.self.now.ticker got.0 None (record o { link = p; written = w }) (record o { link = r; written = w })
          c.requires.opened made.session ended
          (talks-hears o p q r w w got.0 (stepped c.args.self.now.session (event_of got.0)).step.sends [] got.2 made.passed (Appends-nil w)),
    )

pub returns-clause-goes_on : goal.returns-clause-goes_on
returns-clause-goes_on g c = λ no.
    let got = c.in-Ok.ensures.event in
    let r = stepped c.args.self.now.session (event_of got.0) in
    let made = subst (λ (e : Event). MakesStep (stepped c.args.self.now.session e) c.make_step.new.session c.in-Ok-make_step.end (g.L.Link.told c.receive_event.new.link) (g.L.Link.told c.make_step.new.link)) got.1 c.in-Ok-make_step.ensures.made in
    let ended : r.step.end ≡ None = sym made.ended ∙ c.in-None.is in
    subst (λ (s : SessionState). IsOpen s.open_call) (sym made.session) (waits r ended (hears-ends c.args.self.now.session got.0 c.requires.opened))
