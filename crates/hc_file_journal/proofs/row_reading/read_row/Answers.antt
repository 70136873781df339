use Rattle.std.proofs.Common.{◌∙◌, ◌-◌, IfSome, length, take, drop, subst, arith}
use Rattle.hc_file_journal.specs.RowReading.{TookRecord}
use Rattle.hc_file_journal.proofs.Parsing.{no_longer, read_none, read_on}
use Rattle.hc_file_journal.proofs.row_reading.read_row.Goals as goal

pub records-init : goal.records-init
records-init c =
    (read_none c.args.bytes.now c.begin-durable.result.state c.begin-durable.ensures.state, c.begin-durable.ensures.whole, omega arith)

pub records-preserved : goal.records-preserved
records-preserved c =
    let read = read_on c.args.bytes.now c.records.rest.now c.in-Ok-Some.behind.now c.records.durable.state c.take_record.new.durable.state c.in-len1-up.len_at_least
    c.if-gate-ne-OPEN_GATE.false c.records.invariant.0 (subst (λ o. IfSome o (λ rest. TookRecord (take (length c.records.rest.now - 1) (drop 1 c.records.rest.now)) rest.now c.records.durable.state c.take_record.new.durable.state)) c.in-Ok-Some.field-0-is c.in-Ok-Some.ensures.taken) in
    (read, c.in-Ok-Some.ensures.whole ∙ c.records.invariant.1, no_longer c.args.bytes.now c.in-Ok-Some.behind.now c.take_record.new.durable.state read)
