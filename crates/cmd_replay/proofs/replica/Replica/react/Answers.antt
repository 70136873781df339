use Rattle.std.proofs.Common.{refl}
use Rattle.hc_node.specs.Node.{NodeState}
use Rattle.cmd_replay.specs.Replica.{member_of}
use Rattle.cmd_replay.proofs.replica.Replica.react.Goals as goal

pub returns : goal.returns
returns c =
    let n : NodeState = record { setup = c.args.self.now.setup; member = member_of c.args.self.now } in
    record {
      setup = refl;
      node = c.in_ok-turn.ensures.state n c.requires.node;
      records = refl;
      stored = c.in_ok-turn.ensures.stored n c.requires.node;
      sends = c.in_ok-turn.ensures.sends n c.requires.node;
      changed = c.in_ok-turn.ensures.changed n c.requires.node;
    }
