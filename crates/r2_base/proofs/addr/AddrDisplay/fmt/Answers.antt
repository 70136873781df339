-- The pieces that were printed are the address's text.
use Rattle.std.proofs.Common.{subst}
use Rattle.std.specs.Fmt.{HasWritten}
use Rattle.r2_base.proofs.AddrTexts.{printed_is}
use Rattle.r2_base.proofs.addr.AddrDisplay.fmt.Goals as goal

pub returns-clause-writes : goal.returns-clause-writes
returns-clause-writes g c plain ok =
    subst (λ text. HasWritten g.W.Write.write_str_gives c.args.f.now text c.write.new.self)
    (printed_is c.args.self.now c.to_be_bytes.result c.to_be_bytes.ensures) (c.write.ensures.writes plain ok)
