use Rattle.std.proofs.lemmas.Result.{err_from_is_err_and}
use Rattle.hc_journal.proofs.RecordWhole.{fields_fault, no_extra_of, other_version, some_extra_of, version_fault}
use Rattle.hc_journal.proofs.record_reading.decode_record.Goals as goal

pub returns-in_err-version : goal.returns-in_err-version
returns-in_err-version c =
    let p = err_from_is_err_and c.from_residual.result c.from_residual.ensures.1 in
    rw (p.1, p.2) (version_fault c.args.bytes.now c.in_err-version.field-0.0 c.in_err-version.ensures)

pub returns-then-version-ne-RECORD_VERSION_1 : goal.returns-then-version-ne-RECORD_VERSION_1
returns-then-version-ne-RECORD_VERSION_1 c =
    other_version c.args.bytes.now c.in_ok-version.version c.in_ok-version.fields.now c.in_ok-version.ensures c.if-version-ne-RECORD_VERSION_1.true

pub returns-in_err-record : goal.returns-in_err-record
returns-in_err-record c =
    let p = err_from_is_err_and c.from_residual-in_err-record.result c.from_residual-in_err-record.ensures.1 in
    rw (p.1, p.2) (fields_fault c.args.bytes.now c.in_ok-version.version c.in_ok-version.fields.now c.in_err-record.field-0.0 c.in_ok-version.ensures c.if-version-ne-RECORD_VERSION_1.false c.in_err-record.ensures)

pub returns-then-not-is_empty : goal.returns-then-not-is_empty
returns-then-not-is_empty c =
    some_extra_of c.args.bytes.now c.in_ok-version.version c.in_ok-version.fields.now c.in_ok-record.record c.in_ok-record.rest.now c.is_empty.result c.in_ok-version.ensures c.if-version-ne-RECORD_VERSION_1.false c.in_ok-record.ensures c.is_empty.ensures c.if-not-is_empty.true

pub returns : goal.returns
returns c =
    no_extra_of c.args.bytes.now c.in_ok-version.version c.in_ok-version.fields.now c.in_ok-record.record c.in_ok-record.rest.now c.is_empty.result c.in_ok-version.ensures c.if-version-ne-RECORD_VERSION_1.false c.in_ok-record.ensures c.is_empty.ensures c.if-not-is_empty.false
