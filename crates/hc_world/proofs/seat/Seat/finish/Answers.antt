use Rattle.std.proofs.Common.{Some, refl, ap, ◌∙◌}
use Rattle.hc_member.specs.Member.{Member}
use Rattle.hc_node.specs.Node.{NodeState}
use Rattle.hc_world.specs.Seat.{member_of}
use Rattle.hc_world.proofs.Reach.{reach-is}
use Rattle.hc_world.proofs.Seats.{inner, number-at, runs-finished, sound-at}
use Rattle.hc_world.proofs.seat.Seat.finish.Goals as goal

pub returns-clause-runs : goal.returns-clause-runs
returns-clause-runs c =
    let n : NodeState = record { setup = c.args.self.now.setup; member = member_of c.args.self.now } in
    let here = inner c.args.self.now.node c.in-Some.node (Some n) c.in-Some.is c.requires.node in
    runs-finished n.setup n.member c.args.self.now _ c.requires refl (ap Some (c.in_ok-replies.ensures.state n here)) refl

pub returns-clause-sends : goal.returns-clause-sends
returns-clause-sends c =
    let n : NodeState = record { setup = c.args.self.now.setup; member = member_of c.args.self.now } in
    let here = inner c.args.self.now.node c.in-Some.node (Some n) c.in-Some.is c.requires.node in
    c.in_ok-replies.ensures.sends n here

pub returns-clause-reach : goal.returns-clause-reach
returns-clause-reach c =
    let n : NodeState = record { setup = c.args.self.now.setup; member = member_of c.args.self.now } in
    let here = inner c.args.self.now.node c.in-Some.node (Some n) c.in-Some.is c.requires.node in
    let later = c.in_ok-replies.ensures.state n here in
    let sound = sound-at n c.in-Some.node here c.spent-spent.ensures.holds in
    let before = c.applied-before.ensures ∙ number-at (λ (m : Member). m.applied) n c.in-Some.node here in
    let after = c.applied-after.ensures ∙ number-at (λ (m : Member). m.applied) _ c.finish.new.self later in
    c.reach.ensures ∙ reach-is n.setup n.member c.applied-before.result c.applied-after.result sound before after c.applied-after.type_inv
