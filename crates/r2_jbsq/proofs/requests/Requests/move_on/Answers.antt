use Rattle.r2_jbsq.proofs.Index.{index-gone}
use Rattle.r2_jbsq.proofs.requests.Requests.move_on.Goals as goal

pub invariant_of-self-2 : goal.invariant_of-self-2
invariant_of-self-2 c =
    index-gone _ _ _ _ _ _ _ c.in-Some.request c.self.invariant c.in-Some.ensures.items (rw (← c.self.view_is) at c.requires.server) c.index_mut.ensures.value c.push.ensures
