use Rattle.std.proofs.Common.{sym, subst}
use Rattle.r2_base.specs.declared.entry.Kind.TheVariants.{Write}
use Rattle.hc_store.specs.Short.{AreShort}
use Rattle.r2_server.specs.State.{ServerState}
use Rattle.hc_store.proofs.Short.{payload_short, served_short}
use Rattle.r2_server.proofs.live_server.LiveServer.serve.Goals as goal

pub reply_parts-requires-clause-payload : goal.reply_parts-requires-clause-payload
reply_parts-requires-clause-payload g c =
    let contents = subst (λ (s : ServerState). AreShort s.service.contents) (sym c.self.view_is) c.requires.contents in
    let served = served_short _ Write c.args.body.now contents c.requires.body in
    rw (c.as_slice.ensures, c.in_ok-payload.ensures) (payload_short _ _ _ (rw c.in_ok-reply.ensures.value served.value))
