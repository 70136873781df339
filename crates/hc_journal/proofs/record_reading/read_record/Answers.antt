use Rattle.std.proofs.Common.{arith}
use Rattle.hc_message.proofs.Unless.{exact}
use Rattle.hc_journal.specs.RecordFaults.{is_memory}
use Rattle.hc_journal.specs.RecordReading.{decode_record}
use Rattle.hc_journal.proofs.RecordWhole.{spelled}
use Rattle.hc_journal.proofs.record_reading.read_record.Goals as goal

pub returns-clause-read : goal.returns-clause-read
returns-clause-read c = exact is_memory c.decode_record.result (decode_record c.args.bytes.now) c.decode_record.ensures

pub returns-clause-spelled : goal.returns-clause-spelled
returns-clause-spelled c =
    spelled c.args.bytes.now c.decode_record.result (λ i. omega (arith, c.type_inv.bytes i)) c.decode_record.ensures
