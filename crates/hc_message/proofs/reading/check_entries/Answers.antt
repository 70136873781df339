use Rattle.std.proofs.lemmas.Result.{err_from_is_err_and}
use Rattle.hc_message.specs.Fields.{after}
use Rattle.hc_message.specs.Reading.{front_entries}
use Rattle.hc_message.proofs.EntriesLoop.{check_goes_on, check_ends, check_is_done}
use Rattle.hc_message.proofs.reading.check_entries.Goals as goal

pub returns-in_err-entry : goal.returns-in_err-entry
returns-in_err-entry c =
    let p = err_from_is_err_and c.from_residual.result c.from_residual.ensures.1 in
    rw (p.1, p.2) (check_ends c.in_err-entry.field-0.0 c.args.count c.entries.counter c.entries.low c.args.most c.entries.rest.now (after (front_entries c.args.count c.args.least c.args.most c.args.bytes.now)) c.entries-test.true c.in_err-entry.ensures c.entries.invariant)

pub entries-preserved : goal.entries-preserved
entries-preserved c =
    check_goes_on c.args.count c.entries.counter c.entries.low c.args.most c.entries.rest.now c.in_ok-entry.entry c.in_ok-entry.behind.now (after (front_entries c.args.count c.args.least c.args.most c.args.bytes.now)) c.entries-test.true c.in_ok-entry.ensures c.entries.invariant

pub returns : goal.returns
returns c =
    check_is_done c.args.count c.entries.counter c.entries.low c.args.most c.entries.rest.now (after (front_entries c.args.count c.args.least c.args.most c.args.bytes.now)) c.entries-test.false c.entries.invariant
