use Rattle.r2_jbsq.proofs.Index.{index-new}
use Rattle.r2_jbsq.proofs.requests.Requests.new.Goals as goal

pub invariant_of-result : goal.invariant_of-result
invariant_of-result c =
    index-new _ _ _ _ c.new-2.ensures.empty c.in_ok-new_rows.ensures c.new.ensures.items
