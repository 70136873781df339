use Rattle.cmd_replica.proofs.Called.{first-called}
use Rattle.cmd_replica.proofs.Turns.{finishes-next, first-led, first-lowers, first-ready}
use Rattle.cmd_replica.proofs.party.ReplicaPartyParty.finish.Goals as goal

pub returns-clause-replies : goal.returns-clause-replies
returns-clause-replies g c first before records sent turned =
    let self = c.args.self.now in
    let seen = g.N.Seen.state in
    let makes = first-called seen (goal.F-pre g) (goal.F-post g) self.finish _ _ self.left c.in_ok-half.half c.requires.2.1 c.requires.2.0 c.in_ok-half.ensures in
    finishes-next (seen first.node) (seen self.node) (seen c.finish.new.arg2) first.left self.left c.in_ok-half.half before records sent makes turned

pub returns-clause-counted : goal.returns-clause-counted
returns-clause-counted g c n had =
    let self = c.args.self.now in
    let seen = g.N.Seen.state in
    let makes = first-called seen (goal.F-pre g) (goal.F-post g) self.finish _ _ self.left c.in_ok-half.half c.requires.2.1 c.requires.2.0 c.in_ok-half.ensures in
    (first-ready (seen self.node) (seen c.finish.new.arg2) self.left c.in_ok-half.half had.0 makes, had.1, had.2)

pub returns-clause-recorded : goal.returns-clause-recorded
returns-clause-recorded g c told led =
    let self = c.args.self.now in
    let seen = g.N.Seen.state in
    let makes = first-called seen (goal.F-pre g) (goal.F-post g) self.finish _ _ self.left c.in_ok-half.half c.requires.2.1 c.requires.2.0 c.in_ok-half.ensures in
    first-led told (seen self.node) (seen c.finish.new.arg2) self.left c.in_ok-half.half c.requires.2.0 makes led

pub returns-clause-lowered : goal.returns-clause-lowered
returns-clause-lowered g c waits =
    let self = c.args.self.now in
    let seen = g.N.Seen.state in
    let makes = first-called seen (goal.F-pre g) (goal.F-post g) self.finish _ _ self.left c.in_ok-half.half c.requires.2.1 c.requires.2.0 c.in_ok-half.ensures in
    first-lowers (seen self.node) (seen c.finish.new.arg2) self.left c.in_ok-half.half c.requires.2.0 makes waits
