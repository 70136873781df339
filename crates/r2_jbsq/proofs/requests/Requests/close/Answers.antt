use Rattle.r2_jbsq.proofs.Index.{index-closed}
use Rattle.r2_jbsq.proofs.requests.Requests.close.Goals as goal

pub invariant_of-self : goal.invariant_of-self
invariant_of-self c =
    index-closed _ _ _ _ _ _ _ _ c.remove.ensures.updates.0 c.self.invariant (rw (← c.self.view_is) at c.requires.server) c.index_mut.ensures.value c.close.ensures (rw (← c.self.view_is) at c.requires.once) (rw (← c.self.view_is) at c.requires.is_open)
