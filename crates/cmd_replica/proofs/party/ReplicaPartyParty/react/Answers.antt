use Rattle.cmd_replica.proofs.Called.{second-called}
use Rattle.cmd_replica.proofs.Turns.{reacts-next, second-fits, second-led, second-ready}
use Rattle.cmd_replica.proofs.party.ReplicaPartyParty.react.Goals as goal

pub returns-clause-turn : goal.returns-clause-turn
returns-clause-turn g c replies first before records sent finished =
    let self = c.args.self.now in
    let seen = g.N.Seen.state in
    let makes = second-called seen (goal.R-pre g) (goal.R-post g) self.react _ _ c.args.event self.left c.in_ok-half.half c.requires.2.2 c.requires.2.0 c.in_ok-half.ensures in
    reacts-next (seen first.node) (seen self.node) (seen c.react.new.arg2) first.left self.left c.args.event.now c.in_ok-half.half before records sent replies makes finished

pub returns-clause-counted : goal.returns-clause-counted
returns-clause-counted g c n had =
    let self = c.args.self.now in
    let seen = g.N.Seen.state in
    let makes = second-called seen (goal.R-pre g) (goal.R-post g) self.react _ _ c.args.event self.left c.in_ok-half.half c.requires.2.2 c.requires.2.0 c.in_ok-half.ensures in
    (second-ready (seen self.node) (seen c.react.new.arg2) self.left c.args.event.now c.in_ok-half.half had.0 makes, had.1, had.2)

pub returns-clause-fits : goal.returns-clause-fits
returns-clause-fits g c told led =
    let self = c.args.self.now in
    let seen = g.N.Seen.state in
    let makes = second-called seen (goal.R-pre g) (goal.R-post g) self.react _ _ c.args.event self.left c.in_ok-half.half c.requires.2.2 c.requires.2.0 c.in_ok-half.ensures in
    second-fits told (seen self.node) (seen c.react.new.arg2) self.left c.args.event.now c.in_ok-half.half c.requires.2.0 makes led

pub returns-clause-recorded : goal.returns-clause-recorded
returns-clause-recorded g c told told' led gains silent =
    let self = c.args.self.now in
    let seen = g.N.Seen.state in
    let makes = second-called seen (goal.R-pre g) (goal.R-post g) self.react _ _ c.args.event self.left c.in_ok-half.half c.requires.2.2 c.requires.2.0 c.in_ok-half.ensures in
    second-led told told' (seen self.node) (seen c.react.new.arg2) self.left c.args.event.now c.in_ok-half.half c.requires.2.0 makes led gains silent
