use Rattle.std.proofs.Common.{refl}
use Rattle.hc_node.specs.Node.{NodeState}
use Rattle.cmd_replay.specs.Replica.{member_of}
use Rattle.cmd_replay.proofs.Replicas.{runs-finished}
use Rattle.cmd_replay.proofs.replica.Replica.finish.Goals as goal

pub returns-clause-runs : goal.returns-clause-runs
returns-clause-runs c =
    let n : NodeState = record { setup = c.args.self.now.setup; member = member_of c.args.self.now } in
    runs-finished n.setup n.member c.args.self.now _ c.requires refl (c.in_ok-replies.ensures.state n c.requires.node) refl

pub returns-clause-sends : goal.returns-clause-sends
returns-clause-sends c =
    let n : NodeState = record { setup = c.args.self.now.setup; member = member_of c.args.self.now } in
    c.in_ok-replies.ensures.sends n c.requires.node
