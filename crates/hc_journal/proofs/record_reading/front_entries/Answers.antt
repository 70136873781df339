use Rattle.std.proofs.Common.{ap}
use Rattle.std.proofs.lemmas.Result.{err_from_is_err_and}
use Rattle.hc_message.specs.Fields.{of_fields}
use Rattle.hc_journal.specs.RecordFaults.{record_fault_of}
use Rattle.hc_journal.specs.RecordReading.{front_entries, front_stored}
use Rattle.hc_journal.proofs.RecordLoop.{goes_on, ends, is_done, of_fields-ok}
use Rattle.hc_journal.proofs.record_reading.front_entries.Goals as goal

pub returns-in_err-stored : goal.returns-in_err-stored
returns-in_err-stored c =
    let p = err_from_is_err_and c.from_residual.result c.from_residual.ensures.1 in
    rw (p.1, p.2) (ends c.in_err-stored.field-0.0 c.entries.entries.items c.args.count c.entries.counter c.entries.rest.now (front_entries c.args.count c.args.bytes.now) c.entries-test.true c.in_err-stored.ensures c.entries.invariant)

pub entries-preserved : goal.entries-preserved
entries-preserved c =
    let read = of_fields-ok record_fault_of (front_stored c.entries.rest.now) (c.in_ok-stored.stored, c.in_ok-stored.behind.now) c.in_ok-stored.ensures in
    rw c.in_ok-push.ensures.items (goes_on c.entries.entries.items c.args.count c.entries.counter c.entries.rest.now c.in_ok-stored.stored c.in_ok-stored.behind.now (front_entries c.args.count c.args.bytes.now) c.entries-test.true read c.entries.invariant)

pub returns : goal.returns
returns c =
    ap (of_fields record_fault_of) (is_done c.entries.entries.items c.args.count c.entries.counter c.entries.rest.now (front_entries c.args.count c.args.bytes.now) c.entries-test.false c.entries.invariant)
