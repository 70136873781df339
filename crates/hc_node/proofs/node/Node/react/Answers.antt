use Rattle.std.proofs.Common.{◌≡◌, sym, subst, ◌∙◌}
use Rattle.hc_node.specs.Node.{IsSoundUnlessSpent}
use Rattle.hc_node.proofs.Nodes.{react-changed, react-short, react-sound}
use Rattle.hc_node.proofs.node.Node.react.Goals as goal

pub invariant_of-self-2 : goal.invariant_of-self-2
invariant_of-self-2 g c =
    rw c.in_ok-turn.ensures.state
    (react-sound _ c.args.event.now c.in_ok-turn.ensures.bytes (subst IsSoundUnlessSpent (sym c.in-Some.ensures.value) c.self.invariant))

pub returns-clause-changed : goal.returns-clause-changed
returns-clause-changed g c =
    λ n e.
    let same : c.in-Some.live ≡ n = (let whole = c.in-Some.ensures.value ∙ c.self.view_is ∙ e in cc) in
    react-changed n c.in-Some.live c.args.event.now c.in_ok-turn.turn.stored same c.in_ok-turn.ensures.bytes
    (subst IsSoundUnlessSpent (sym c.in-Some.ensures.value) c.self.invariant) c.in_ok-turn.ensures.stored

pub returns-clause-fits : goal.returns-clause-fits
returns-clause-fits g c =
    rw c.in_ok-turn.ensures.sends
    (react-short _ c.args.event.now c.in_ok-turn.ensures.bytes (subst IsSoundUnlessSpent (sym c.in-Some.ensures.value) c.self.invariant))
