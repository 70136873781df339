use Rattle.std.proofs.Common.{[], ◌∷◌, ◌++◌, ap, ◌∙◌}
use Rattle.r2_jbsq.proofs.Index.{index-queued}
use Rattle.r2_jbsq.proofs.requests.Requests.queue.Goals as goal

pub invariant_of-self-2 : goal.invariant_of-self-2
invariant_of-self-2 c =
    index-queued _ _ c.self.inside.rows.items _ _ c.args.request c.in_ok-insert.ensures.updates.0 c.self.invariant
    (c.push_back_reserved.ensures.items ∙ ap (λ l. l ++ c.args.request ∷ []) c.reserve.ensures.items)
