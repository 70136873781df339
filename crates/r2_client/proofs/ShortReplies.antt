-- A whole reply is no longer than it may be.
use Rattle.std.proofs.Common.{◌≤◌, ℕ, List, length, arith}
use Rattle.r2_base.specs.Limits.{most_reply}
use Rattle.r2_frag.specs.declared.added.Added.TheVariants.{Whole}
use Rattle.r2_frag.specs.declared.class.Class.{Class}
use Rattle.r2_frag.specs.declared.class.Class.TheVariants.{Request, Reply, Recover}
use Rattle.r2_frag.specs.Sizes.{IsBodyWithin}

-- no class allows a longer body than a reply may have
pub whole_short : (class : Class) (body : List ℕ) → IsBodyWithin class (Whole body) → length body ≤ most_reply
whole_short Request body few = omega (arith, few)
whole_short Reply body few = few
whole_short Recover body few = few
