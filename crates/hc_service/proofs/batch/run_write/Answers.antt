use Rattle.std.proofs.Common.{◌≡◌, sym, ap, ◌∙◌}
use Rattle.r2_base.specs.declared.entry.Kind.TheVariants.{Write}
use Rattle.hc_log.specs.Log.{stored_at}
use Rattle.hc_store.specs.Service.{serve}
use Rattle.hc_service.proofs.batch.run_write.Goals as goal

pub returns-clause-answers : goal.returns-clause-answers
returns-clause-answers g c =
    let s = stored_at c.args.log.now c.args.index in
    let contents = (g.V.Service.state c.args.service.now).contents in
    let body : c.as_slice.result.now ≡ s.body = c.as_slice.ensures ∙ c.body-body.ensures in
    c.in_ok-answer.ensures s (serve contents Write s.body) (sym c.entry-entry.ensures)
    (c.in_ok-reply.ensures.status ∙ ap (λ b. (serve contents Write b).status) body)
    (c.in_ok-reply.ensures.value ∙ ap (λ b. (serve contents Write b).value) body)
