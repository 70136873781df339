-- A client's calls, a replay and a simulation, as the table has them.
use Rattle.std.proofs.Common.{None, refl, subst}
use Rattle.cmd_status.specs.declared.status.Status.{Status}
use Rattle.hc_tops.specs.Commands.{Outside, outside, row}
use Rattle.hc_tops.proofs.Meanings.{runs-known}
use Rattle.hc_tops.proofs.running.run_bound.Goals as goal

pub returns-in-Client-clause-did : goal.returns-in-Client-clause-did
returns-in-Client-clause-did g c = λ disk.
    rw c.in-Client.is (c.call_client.ensures.ran (outside (g.S.Source.left c.args.source.now) (g.K.Sink.written c.args.sink.now) (g.L.Link.told c.args.link.now) (g.C.Clock.left c.args.clock.now) disk).ends)

pub returns-in-Client-clause-well : goal.returns-in-Client-clause-well
returns-in-Client-clause-well g c =
    rw c.in-Client.is (λ calm script told is. c.call_client.ensures.complete script told is (calm.source refl) (calm.sink refl) (calm.link refl) (calm.clock refl))

pub returns-in-Client-clause-known : goal.returns-in-Client-clause-known
returns-in-Client-clause-known g c = λ is.
    let a : Outside = outside (g.S.Source.left c.args.source.now) (g.K.Sink.written c.args.sink.now) (g.L.Link.told c.args.link.now) (g.C.Clock.left c.args.clock.now) None in
    let b : Outside = outside (g.S.Source.left c.call_client.new.source) (g.K.Sink.written c.call_client.new.sink) (g.L.Link.told c.call_client.new.link) (g.C.Clock.left c.call_client.new.clock) None in
    let did : (row c.args.meant).runs a b c.call_client.result = rw c.in-Client.is (c.call_client.ensures.ran a.ends) in
    runs-known c.args.meant a b c.requires.within (subst (λ (s : Status). (row c.args.meant).runs a b s) is did)

pub returns-in-Replay-clause-well : goal.returns-in-Replay-clause-well
returns-in-Replay-clause-well g c = rw c.in-Replay.is (λ calm script told is. c.replay.ensures.complete script told is (calm.source refl) (calm.sink refl))

pub returns-in-Simulate-clause-well : goal.returns-in-Simulate-clause-well
returns-in-Simulate-clause-well g c = rw c.in-Simulate.is (λ calm. c.simulate.ensures.complete (calm.sink refl))
