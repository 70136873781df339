use Rattle.std.proofs.Common.{sym, rules}
use Rattle.r2_frag.specs.declared.kept.KeptReply.{KeptReply}
use Rattle.r2_frag.specs.Kept.{newest}
use Rattle.r2_base.specs.Names.{same_rid}
use Rattle.r2_frag.proofs.Newest.{newest-here, newest-inside, newest-past}
use Rattle.r2_frag.proofs.kept.newest.Goals as goal
use Rattle.r2_frag.proofs.kept.newest.Goals.{in-Some+else-is_to, in_default}

pub returns-then-is_to : goal.returns-then-is_to
unfolding newest
returns-then-is_to c =
    sym (newest-here (λ (reply : KeptReply). same_rid reply.rid c.args.rid.now) c.args.replies.now.items c.replies.newer c.in-Some.reply.now (search rules) (search rules) c.replies.invariant (search rules))

pub replies-preserved : goal.replies-preserved
replies-preserved c =
    elim c.match-nth_back.branch [
      | in-Some+else-is_to w ↦
          newest-past (λ (reply : KeptReply). same_rid reply.rid c.args.rid.now) c.args.replies.now.items c.replies.newer w.in-Some.reply.now (search rules) (search rules) c.replies.invariant (search rules)
      | in_default w ↦ absurd (newest-inside (λ (reply : KeptReply). same_rid reply.rid c.args.rid.now) c.args.replies.now.items c.replies.newer (search rules) (search rules))
    ]
