-- The loop over a new router is one over the empty history, and the totals are those of what its events made of it.
use Rattle.std.proofs.Common.{List, arith}
use Rattle.r2_base.specs.declared.datagram.Datagram.{Datagram}
use Rattle.r2_base.specs.declared.event.Event.{Event}
use Rattle.r2_link.specs.Faults.{Rose}
use Rattle.r2_jbsq.specs.declared.router_setup.RouterSetup.{RouterSetup}
use Rattle.cmd_loop.specs.Ends.{Ends}
use Rattle.cmd_loop.specs.Happenings.{events_of}
use Rattle.cmd_loop.specs.Plain.{Unstored}
use Rattle.cmd_loop.proofs.Passing.{silent}
use Rattle.cmd_router.specs.Routed.{RouterSends}
use Rattle.cmd_router.specs.Totals.{totals_line}
use Rattle.cmd_router.proofs.Routes.{Counted, ends-well, new-counted, new-sends, routes-of, unstored-gives}
use Rattle.cmd_router.proofs.Twins.{on-twin-weaker}
use Rattle.cmd_router.proofs.routing.serve_alone.Goals as goal

pub returns-in-Ok-serve_on_twin-clause-ran : goal.returns-in-Ok-serve_on_twin-clause-ran
returns-in-Ok-serve_on_twin-clause-ran g c o =
    let setup : RouterSetup = record { me = c.args.me; servers = c.args.servers; n = c.args.n } in
    let a : Ends = record o { written = g.K.Sink.written c.args.sink.now; link = g.L.Link.told c.args.link.now; clock = g.C.Clock.left c.args.clock.now } in
    let looped : Ends = record a { link = g.L.Link.told c.serve_on_twin.new.link; clock = g.C.Clock.left c.serve_on_twin.new.clock } in
    let b : Ends = record looped { written = g.K.Sink.written c.tell_end.new.sink } in
    let first = c.in-Ok.party in
    let last = c.serve_on_twin.new.party.party in
    let line = totals_line last.turns last.router.accepted last.router.forwarded last.router.answered in
    let counted : (events : List Event) (sends : List Datagram) → _ → Counted setup line events sends =
    λ events sends becomes. new-counted setup first.router last.router first.turns last.turns events sends c.in-Ok.ensures.0 c.in-Ok.ensures.1 becomes in
    routes-of setup c.args.pace line a b c.in-Ok-serve_on_twin.ended c.tell_end.result
    (on-twin-weaker _ (Unstored (Counted setup line)) _ (Unstored (Counted setup line)) _ (Unstored (RouterSends setup))
    (unstored-gives _ (Counted setup line) counted) (unstored-gives _ (Counted setup line) counted)
    (λ happened stored sends right. (right.0, new-sends setup first.router right.1.0.router first.turns right.1.0.turns (events_of happened) sends c.in-Ok.ensures.0 right.1.1))
    c.args.pace a looped c.in-Ok-serve_on_twin.ended (c.in-Ok-serve_on_twin.ensures.ran (record o { written = g.K.Sink.written c.args.sink.now })))
    c.tell_end.ensures.untold (rw c.totals.ensures at c.tell_end.ensures.told)
    (λ is. omega (arith, c.in-Ok-serve_on_twin.ensures.caused.disk is))

pub returns-in-Ok-serve_on_twin-clause-complete : goal.returns-in-Ok-serve_on_twin-clause-complete
returns-in-Ok-serve_on_twin-clause-complete g c =
    ends-well _ _ _ c.args.pace (record silent { link = g.L.Link.told c.args.link.now; clock = g.C.Clock.left c.args.clock.now })
    (record silent { link = g.L.Link.told c.serve_on_twin.new.link; clock = g.C.Clock.left c.serve_on_twin.new.clock })
    (g.L.Link.faults c.args.link.now) (g.L.Link.faults c.serve_on_twin.new.link) (g.C.Clock.faults c.args.clock.now) (g.C.Clock.faults c.serve_on_twin.new.clock)
    (Rose (g.K.Sink.faults c.args.sink.now) (g.K.Sink.faults c.tell_end.new.sink)) c.in-Ok-serve_on_twin.ended c.tell_end.result
    (c.in-Ok-serve_on_twin.ensures.ran silent) c.in-Ok-serve_on_twin.ensures.caused c.tell_end.ensures.cause
