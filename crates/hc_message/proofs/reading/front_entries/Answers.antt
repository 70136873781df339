use Rattle.std.proofs.Common.{ap}
use Rattle.std.proofs.lemmas.Result.{err_from_is_err_and}
use Rattle.hc_message.specs.Faults.{msg_fault_of}
use Rattle.hc_message.specs.Fields.{of_fields}
use Rattle.hc_message.specs.Reading.{front_entries}
use Rattle.hc_message.proofs.EntriesLoop.{goes_on, ends, is_done}
use Rattle.hc_message.proofs.reading.front_entries.Goals as goal

pub returns-in_err-entry : goal.returns-in_err-entry
returns-in_err-entry c =
    let p = err_from_is_err_and c.from_residual.result c.from_residual.ensures.1 in
    rw (p.1, p.2) (ends c.in_err-entry.field-0.0 c.entries.entries.items c.args.count c.entries.counter c.entries.lowest c.args.most c.entries.rest.now (front_entries c.args.count c.args.least c.args.most c.args.bytes.now) c.entries-test.true c.in_err-entry.ensures c.entries.invariant)

pub entries-preserved : goal.entries-preserved
entries-preserved c =
    rw c.in_ok-push.ensures.items (goes_on c.entries.entries.items c.args.count c.entries.counter c.entries.lowest c.args.most c.entries.rest.now c.in_ok-entry.entry c.in_ok-entry.behind.now (front_entries c.args.count c.args.least c.args.most c.args.bytes.now) c.entries-test.true c.in_ok-entry.ensures c.entries.invariant)

pub returns : goal.returns
returns c =
    ap (of_fields msg_fault_of) (is_done c.entries.entries.items c.args.count c.entries.counter c.entries.lowest c.args.most c.entries.rest.now (front_entries c.args.count c.args.least c.args.most c.args.bytes.now) c.entries-test.false c.entries.invariant)
