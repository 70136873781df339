use Rattle.hc_node.proofs.Nodes.{start-sound}
use Rattle.hc_node.proofs.node.Node.start.Goals as goal

pub invariant_of-result : goal.invariant_of-result
invariant_of-result g c = rw c.in_ok-live.ensures (start-sound _ _ c.requires.setup c.whole-whole.ensures.holds)
