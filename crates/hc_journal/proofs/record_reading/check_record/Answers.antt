use Rattle.std.proofs.Common.{ap}
use Rattle.std.proofs.lemmas.Result.{err_from_is_err_and}
use Rattle.hc_message.specs.Fields.{checked}
use Rattle.hc_journal.proofs.RecordWhole.{check_extra, check_fault, check_whole, no_version, other_version}
use Rattle.hc_journal.proofs.record_reading.check_record.Goals as goal

pub returns-in_err-version : goal.returns-in_err-version
returns-in_err-version c =
    let p = err_from_is_err_and c.from_residual.result c.from_residual.ensures.1 in
    rw (p.1, p.2) (ap checked (no_version c.args.bytes.now c.in_err-version.field-0.0 c.in_err-version.ensures))

pub returns-then-version-ne-RECORD_VERSION_1 : goal.returns-then-version-ne-RECORD_VERSION_1
returns-then-version-ne-RECORD_VERSION_1 c =
    ap checked (other_version c.args.bytes.now c.in_ok-version.version c.in_ok-version.fields.now c.in_ok-version.ensures c.if-version-ne-RECORD_VERSION_1.true)

pub returns-in_err-rest : goal.returns-in_err-rest
returns-in_err-rest c =
    let p = err_from_is_err_and c.from_residual-in_err-rest.result c.from_residual-in_err-rest.ensures.1 in
    rw (p.1, p.2) (check_fault c.args.bytes.now c.in_ok-version.version c.in_ok-version.fields.now c.in_err-rest.field-0.0 c.in_ok-version.ensures c.if-version-ne-RECORD_VERSION_1.false c.in_err-rest.ensures)

pub returns-then-is_empty : goal.returns-then-is_empty
returns-then-is_empty c =
    check_whole c.args.bytes.now c.in_ok-version.version c.in_ok-version.fields.now c.in_ok-rest.rest.now c.is_empty.result c.in_ok-version.ensures c.if-version-ne-RECORD_VERSION_1.false c.in_ok-rest.ensures c.is_empty.ensures c.if-is_empty.true

pub returns-else-is_empty : goal.returns-else-is_empty
returns-else-is_empty c =
    check_extra c.args.bytes.now c.in_ok-version.version c.in_ok-version.fields.now c.in_ok-rest.rest.now c.is_empty.result c.in_ok-version.ensures c.if-version-ne-RECORD_VERSION_1.false c.in_ok-rest.ensures c.is_empty.ensures c.if-is_empty.false
