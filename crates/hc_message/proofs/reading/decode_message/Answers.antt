use Rattle.std.proofs.lemmas.Result.{err_from_is_err_and}
use Rattle.hc_message.proofs.Whole.{fields_fault, no_extra, some_extra, tag_fault}
use Rattle.hc_message.proofs.reading.decode_message.Goals as goal

pub returns-in_err-tag : goal.returns-in_err-tag
returns-in_err-tag c =
    let p = err_from_is_err_and c.from_residual.result c.from_residual.ensures.1 in
    rw (p.1, p.2) (tag_fault c.args.bytes.now c.in_err-tag.field-0.0 c.in_err-tag.ensures)

pub returns-in_err-message : goal.returns-in_err-message
returns-in_err-message c =
    let p = err_from_is_err_and c.from_residual-in_err-message.result c.from_residual-in_err-message.ensures.1 in
    rw (p.1, p.2) (fields_fault c.args.bytes.now c.in_ok-tag.tag c.in_ok-tag.fields.now c.in_err-message.field-0.0 c.in_ok-tag.ensures c.in_err-message.ensures)

pub returns-then-not-is_empty : goal.returns-then-not-is_empty
returns-then-not-is_empty c =
    some_extra c.args.bytes.now c.in_ok-tag.tag c.in_ok-tag.fields.now c.in_ok-message.message c.in_ok-message.rest.now c.is_empty.result c.in_ok-tag.ensures c.in_ok-message.ensures c.is_empty.ensures c.if-not-is_empty.true

pub returns : goal.returns
returns c =
    no_extra c.args.bytes.now c.in_ok-tag.tag c.in_ok-tag.fields.now c.in_ok-message.message c.in_ok-message.rest.now c.is_empty.result c.in_ok-tag.ensures c.in_ok-message.ensures c.is_empty.ensures c.if-not-is_empty.false
