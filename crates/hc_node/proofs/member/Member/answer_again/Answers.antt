use Rattle.std.proofs.Common.{◌≡◌, ◌++◌, List, Some, refl, sym, subst}
use Rattle.std.specs.Prelude.{All, OnOk}
use Rattle.r2_base.specs.declared.datagram.Datagram.{Datagram}
use Rattle.r2_frag.specs.declared.kept.KeptReply.{KeptReply}
use Rattle.r2_frag.specs.Kept.{newest}
use Rattle.r2_frag.specs.Replies.{IsReply}
use Rattle.hc_member.specs.Member.{Member}
use Rattle.hc_member.proofs.Answers.{newest-All}
use Rattle.hc_node.proofs.Again.{found-again, sent-again}
use Rattle.hc_node.proofs.member.Member.answer_again.Goals as goal

pub reply-requires-clause-reply : goal.reply-requires-clause-reply
reply-requires-clause-reply g c =
    let kept = subst (λ (m : Member). All IsReply m.kept) (sym c.self.view_is) c.requires.replies in
    newest-All IsReply c.args.rid.now _ _ kept (found-again c.args.rid.now _ _ _ c.in-Some.policy c.in-Some.payload.now refl c.in-Some.ensures (λ e. cc))

pub returns-in-Some : goal.returns-in-Some
returns-in-Some g c =
    let reply : KeptReply = record { rid = c.args.rid.now; policy = c.in-Some.policy; payload = c.in-Some.payload.now } in
    let here : newest c.args.rid.now c.self.inside.kept ≡ Some reply =
    found-again c.args.rid.now _ _ _ c.in-Some.policy c.in-Some.payload.now refl c.in-Some.ensures (λ e. cc) in
    let found : newest c.args.rid.now c.args.self.now.kept ≡ Some reply =
    subst (λ (m : Member). newest c.args.rid.now m.kept ≡ Some reply) c.self.view_is here in
    subst (λ (ds : List Datagram). OnOk c.reply.result (c.reply.new.sends.items ≡ c.args.sends.now.items ++ ds))
    (sym (sent-again c.args.setup.now (newest c.args.rid.now c.args.self.now.kept) reply found)) c.reply.ensures
