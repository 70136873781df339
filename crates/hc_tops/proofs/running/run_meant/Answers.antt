-- A router, an aggregator and a server, as the table has them, after a bind; a replica, which binds by itself; and the other commands.
use Rattle.std.proofs.Common.{inr, refl, subst}
use Rattle.cmd_status.specs.declared.status.Status.{Status}
use Rattle.cmd_loop.specs.Ends.{Ends}
use Rattle.hc_tops.specs.Commands.{Outside, outside, row}
use Rattle.hc_tops.proofs.Meanings.{runs-known, runs-named, takes-words}
use Rattle.hc_tops.proofs.running.run_meant.Goals as goal

pub returns-in_default-bind_first-clause-did : goal.returns-in_default-bind_first-clause-did
returns-in_default-bind_first-clause-did g c =
    let o : Ends = (outside (g.S.Source.left c.args.source.now) (g.K.Sink.written c.args.sink.now) (g.L.Link.told c.args.link.now) (g.C.Clock.left c.args.clock.now) (g.D.Disk.told c.args.disk.now)).ends in
    rw c.in-Router.is (inr (g.L.Link.told c.bind_first.new.link, c.in_default-bind_first.ensures.bound, record { alone = λ is. c.serve_router.ensures.ran is o; shared = λ more. c.serve_router.ensures.shared more o }))

pub returns-in_default-bind_first-clause-known : goal.returns-in_default-bind_first-clause-known
returns-in_default-bind_first-clause-known g c = λ is.
    let a : Outside = outside (g.S.Source.left c.args.source.now) (g.K.Sink.written c.args.sink.now) (g.L.Link.told c.bind_first.new.link) (g.C.Clock.left c.args.clock.now) (g.D.Disk.told c.args.disk.now) in
    let b : Outside = outside (g.S.Source.left c.args.source.now) (g.K.Sink.written c.serve_router.new.sink) (g.L.Link.told c.serve_router.new.link) (g.C.Clock.left c.serve_router.new.clock) (g.D.Disk.told c.args.disk.now) in
    let did : (row c.args.meant).runs a b c.serve_router.result = rw c.in-Router.is (record { alone = λ is. c.serve_router.ensures.ran is a.ends; shared = λ more. c.serve_router.ensures.shared more a.ends }) in
    runs-known c.args.meant a b c.requires (subst (λ (s : Status). (row c.args.meant).runs a b s) is did)

pub returns-in_default-bind_first-2-clause-did : goal.returns-in_default-bind_first-2-clause-did
returns-in_default-bind_first-2-clause-did g c =
    rw c.in-Aggregator.is (inr (g.L.Link.told c.bind_first-in-Aggregator.new.link, c.in_default-bind_first-2.ensures.bound, c.serve_aggregator.ensures.ran))

pub returns-in_default-bind_first-2-clause-known : goal.returns-in_default-bind_first-2-clause-known
returns-in_default-bind_first-2-clause-known g c = λ is.
    let a : Outside = outside (g.S.Source.left c.args.source.now) (g.K.Sink.written c.args.sink.now) (g.L.Link.told c.bind_first-in-Aggregator.new.link) (g.C.Clock.left c.args.clock.now) (g.D.Disk.told c.args.disk.now) in
    let b : Outside = outside (g.S.Source.left c.args.source.now) (g.K.Sink.written c.args.sink.now) (g.L.Link.told c.serve_aggregator.new.link) (g.C.Clock.left c.args.clock.now) (g.D.Disk.told c.args.disk.now) in
    let did : (row c.args.meant).runs a b c.serve_aggregator.result = rw c.in-Aggregator.is c.serve_aggregator.ensures.ran in
    runs-known c.args.meant a b c.requires (subst (λ (s : Status). (row c.args.meant).runs a b s) is did)

pub returns-in_default-bind_first-3-clause-did : goal.returns-in_default-bind_first-3-clause-did
returns-in_default-bind_first-3-clause-did g c =
    rw c.in-Server.is (inr (g.L.Link.told c.bind_first-in-Server.new.link, c.in_default-bind_first-3.ensures.bound, c.serve_plain.ensures.ran (outside (g.S.Source.left c.args.source.now) (g.K.Sink.written c.args.sink.now) (g.L.Link.told c.args.link.now) (g.C.Clock.left c.args.clock.now) (g.D.Disk.told c.args.disk.now)).ends))

pub returns-in_default-bind_first-3-clause-known : goal.returns-in_default-bind_first-3-clause-known
returns-in_default-bind_first-3-clause-known g c = λ is.
    let a : Outside = outside (g.S.Source.left c.args.source.now) (g.K.Sink.written c.args.sink.now) (g.L.Link.told c.bind_first-in-Server.new.link) (g.C.Clock.left c.args.clock.now) (g.D.Disk.told c.args.disk.now) in
    let b : Outside = outside (g.S.Source.left c.args.source.now) (g.K.Sink.written c.args.sink.now) (g.L.Link.told c.serve_plain.new.link) (g.C.Clock.left c.serve_plain.new.clock) (g.D.Disk.told c.args.disk.now) in
    let did : (row c.args.meant).runs a b c.serve_plain.result = rw c.in-Server.is (c.serve_plain.ensures.ran a.ends) in
    runs-known c.args.meant a b c.requires (subst (λ (s : Status). (row c.args.meant).runs a b s) is did)

pub returns-in-Replica-clause-did : goal.returns-in-Replica-clause-did
returns-in-Replica-clause-did g c =
    rw c.in-Replica.is (inr (g.L.Link.told c.args.link.now, refl, runs-named _ _ c.as_str.ensures (c.run_replica.ensures.ran (outside (g.S.Source.left c.args.source.now) (g.K.Sink.written c.args.sink.now) (g.L.Link.told c.args.link.now) (g.C.Clock.left c.args.clock.now) (g.D.Disk.told c.args.disk.now)).ends)))

pub returns-in-Replica-clause-well : goal.returns-in-Replica-clause-well
returns-in-Replica-clause-well g c = rw c.in-Replica.is (λ calm. c.run_replica.ensures.complete (calm.link refl) (calm.clock refl) (calm.disk refl))

pub returns-in-Replica-clause-known : goal.returns-in-Replica-clause-known
returns-in-Replica-clause-known g c =
    takes-words (c.run_replica.ensures.ran (outside (g.S.Source.left c.args.source.now) (g.K.Sink.written c.args.sink.now) (g.L.Link.told c.args.link.now) (g.C.Clock.left c.args.clock.now) (g.D.Disk.told c.args.disk.now)).ends)

pub returns-in_default-clause-did : goal.returns-in_default-clause-did
returns-in_default-clause-did g c = c.run_plain_meant.ensures.did (g.D.Disk.told c.args.disk.now)
