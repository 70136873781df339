use Rattle.std.proofs.Common.{ap}
use Rattle.std.proofs.lemmas.Result.{err_from_is_err_and}
use Rattle.hc_message.specs.Fields.{checked}
use Rattle.hc_message.proofs.Whole.{check_extra, check_fault, check_whole, no_tag}
use Rattle.hc_message.proofs.reading.check_message.Goals as goal

pub returns-in_err-tag : goal.returns-in_err-tag
returns-in_err-tag c =
    let p = err_from_is_err_and c.from_residual.result c.from_residual.ensures.1 in
    rw (p.1, p.2) (ap checked (no_tag c.args.bytes.now c.in_err-tag.field-0.0 c.in_err-tag.ensures))

pub returns-in_err-rest : goal.returns-in_err-rest
returns-in_err-rest c =
    let p = err_from_is_err_and c.from_residual-in_err-rest.result c.from_residual-in_err-rest.ensures.1 in
    rw (p.1, p.2) (check_fault c.args.bytes.now c.in_ok-tag.tag c.in_ok-tag.fields.now c.in_err-rest.field-0.0 c.in_ok-tag.ensures c.in_err-rest.ensures)

pub returns-else-is_empty : goal.returns-else-is_empty
returns-else-is_empty c =
    check_extra c.args.bytes.now c.in_ok-tag.tag c.in_ok-tag.fields.now c.in_ok-rest.rest.now c.is_empty.result c.in_ok-tag.ensures c.in_ok-rest.ensures c.is_empty.ensures c.if-is_empty.false

pub returns-then-is_empty : goal.returns-then-is_empty
returns-then-is_empty c =
    check_whole c.args.bytes.now c.in_ok-tag.tag c.in_ok-tag.fields.now c.in_ok-rest.rest.now c.is_empty.result c.in_ok-tag.ensures c.in_ok-rest.ensures c.is_empty.ensures c.if-is_empty.true
