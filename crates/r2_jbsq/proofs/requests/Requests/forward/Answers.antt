use Rattle.r2_jbsq.proofs.Index.{index-put}
use Rattle.r2_jbsq.proofs.requests.Requests.forward.Goals as goal

pub invariant_of-self-2 : goal.invariant_of-self-2
invariant_of-self-2 c =
    index-put _ _ _ _ _ _ _ c.args.request c.in_ok-insert.ensures.updates.0 c.self.invariant (rw (← c.self.view_is) at c.requires.server) c.index_mut.ensures.value c.push.ensures
