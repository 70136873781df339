use Rattle.std.proofs.Common.{sym, subst}
use Rattle.std.specs.List.{All}
use Rattle.r2_frag.specs.Replies.{IsReply}
use Rattle.r2_server.specs.State.{ServerState}
use Rattle.r2_server.proofs.KeptReplies.{found-is, newest-is}
use Rattle.r2_server.proofs.live_server.LiveServer.repeat.Goals as goal

pub reply_parts-requires-clause-policy : goal.reply_parts-requires-clause-policy
reply_parts-requires-clause-policy g c =
    let kept = subst (λ (s : ServerState). All IsReply s.kept) (sym c.self.view_is) c.requires in
    (found-is _ _ _ c.in-Some.payload.now (newest-is IsReply c.args.key.now.rid _ kept) c.in-Some.ensures (λ e. cc)).0

pub reply_parts-requires-clause-payload : goal.reply_parts-requires-clause-payload
reply_parts-requires-clause-payload g c =
    let kept = subst (λ (s : ServerState). All IsReply s.kept) (sym c.self.view_is) c.requires in
    rw c.as_slice.ensures (found-is _ _ c.in-Some.policy _ (newest-is IsReply c.args.key.now.rid _ kept) c.in-Some.ensures (λ e. cc)).1
