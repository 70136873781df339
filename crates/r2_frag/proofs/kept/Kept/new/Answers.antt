use Rattle.std.proofs.Common.{rules}
use Rattle.r2_frag.proofs.Counted.{indexed-none}
use Rattle.r2_frag.proofs.kept.Kept.new.Goals as goal

pub invariant_of-result : goal.invariant_of-result
invariant_of-result c =
    indexed-none c.in_ok-replies.replies c.in_ok-counts.counts.items (search rules) c.in_ok-counts.ensures.all c.in_ok-counts.ensures.each
