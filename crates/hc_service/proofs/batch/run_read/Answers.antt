use Rattle.std.proofs.Common.{◌≡◌, sym, ap, ◌∙◌}
use Rattle.r2_base.specs.declared.entry.Kind.TheVariants.{Read}
use Rattle.hc_log.specs.Log.{stored_at}
use Rattle.hc_store.specs.State.{State}
use Rattle.hc_store.specs.Service.{serve}
use Rattle.hc_service.proofs.batch.run_read.Goals as goal

pub returns-clause-answers : goal.returns-clause-answers
returns-clause-answers g c =
    let s = stored_at c.args.log.now c.args.index in
    let contents = (g.V.Service.state c.args.service.now).contents in
    let body : c.as_slice.result.now ≡ s.body = c.as_slice.ensures ∙ c.body-body.ensures in
    let admitted = c.admit-ticket.ensures in
    c.in_ok-answer.ensures s (serve contents Read s.body) (sym c.entry-entry.ensures)
    (c.in_ok-reply.ensures.status ∙ ap (λ (x : State). (serve x.contents Read c.as_slice.result.now).status) admitted ∙ ap (λ b. (serve contents Read b).status) body)
    (c.in_ok-reply.ensures.value ∙ ap (λ (x : State). (serve x.contents Read c.as_slice.result.now).value) admitted ∙ ap (λ b. (serve contents Read b).value) body)
