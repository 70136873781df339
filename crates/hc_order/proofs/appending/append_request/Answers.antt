use Rattle.std.proofs.Common.{◌≡◌, true, Some, is_some, sym, ap, ◌∙◌}
use Rattle.hc_pool.specs.declared.request.Request.{Request}
use Rattle.hc_order.specs.Taking.{with_body}
use Rattle.hc_order.proofs.Growing.{request-follows, with_body-may}
use Rattle.hc_order.proofs.appending.append_request.Goals as goal

pub append-requires : goal.append-requires
append-requires c =
    let e = c.args.e.now in
    let r : Request = record { rid = e.rid; kind = c.in-Some.field-0-0; body = c.in-Some.body } in
    let some : is_some (with_body c.args.log.now e (Some r)) ≡ true =
    ap (λ o. is_some (with_body c.args.log.now e o)) (sym c.in-Some.ensures.taken) ∙ sym c.may_append.ensures ∙ c.if-not-may_append.false in
    request-follows c.args.log.now e r c.requires.entry c.requires.latest c.requires.asks c.in-Some.ensures.fits (with_body-may c.args.log.now e r some)
