use Rattle.std.proofs.Common.{sym, subst}
use Rattle.hc_node.specs.Node.{IsSoundUnlessSpent}
use Rattle.hc_node.proofs.Nodes.{finish-sound, finish-short}
use Rattle.hc_node.proofs.node.Node.finish.Goals as goal

pub invariant_of-self-2 : goal.invariant_of-self-2
invariant_of-self-2 g c = rw c.in_ok-sends.ensures.state (finish-sound _ (subst IsSoundUnlessSpent (sym c.in-Some.ensures.value) c.self.invariant))

pub returns-clause-fits : goal.returns-clause-fits
returns-clause-fits g c =
    rw c.in_ok-sends.ensures.sends (finish-short _ (subst IsSoundUnlessSpent (sym c.in-Some.ensures.value) c.self.invariant))
