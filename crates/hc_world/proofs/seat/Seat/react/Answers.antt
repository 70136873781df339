use Rattle.std.proofs.Common.{Some, refl, ap}
use Rattle.hc_node.specs.Node.{NodeState}
use Rattle.hc_world.specs.Seat.{member_of}
use Rattle.hc_world.proofs.Seats.{inner}
use Rattle.hc_world.proofs.seat.Seat.react.Goals as goal

pub returns : goal.returns
returns c =
    let n : NodeState = record { setup = c.args.self.now.setup; member = member_of c.args.self.now } in
    let here = inner c.args.self.now.node c.in-Some.node (Some n) c.in-Some.is c.requires.node in
    record {
      setup = refl;
      node = ap Some (c.in_ok-turn.ensures.state n here);
      records = refl;
      stored = c.in_ok-turn.ensures.stored n here;
      sends = c.in_ok-turn.ensures.sends n here;
      changed = c.in_ok-turn.ensures.changed n here;
    }
