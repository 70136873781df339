use Rattle.std.proofs.Common.{◌≡◌, None, reverse, take}
use Rattle.std.specs.List.{find}
use Rattle.r2_base.specs.Names.{same_rid}
use Rattle.r2_frag.proofs.kept.newest.Given as goal

abbrev pub invariant-replies : goal.invariant-replies
invariant-replies l = find (λ reply. same_rid reply.rid l.rid) (take l.newer (reverse l.replies.items)) ≡ None
