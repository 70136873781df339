use Rattle.std.proofs.Common.{arith}
use Rattle.hc_message.specs.Faults.{is_memory}
use Rattle.hc_message.specs.Reading.{decode_message}
use Rattle.hc_message.proofs.Unless.{exact}
use Rattle.hc_message.proofs.Whole.{spelled}
use Rattle.hc_message.proofs.reading.read.Goals as goal

pub returns-clause-read : goal.returns-clause-read
returns-clause-read c = exact is_memory c.decode_message.result (decode_message c.args.bytes.now) c.decode_message.ensures

pub returns-clause-spelled : goal.returns-clause-spelled
returns-clause-spelled c =
    spelled c.args.bytes.now c.decode_message.result (λ i. omega (arith, c.type_inv.bytes i)) c.decode_message.ensures
