use Rattle.std.proofs.Common.{rules, arith}
use Rattle.std.proofs.lemmas.Grind.{common_steps}
use Rattle.r2_header.specs.Reading.{header_at}
use Rattle.r2_header.proofs.Begun.{what_is_read_is_spelled}
use Rattle.r2_header.proofs.reading.read.Goals as goal

pub returns-clause-begun : goal.returns-clause-begun
unfolding header_at
returns-clause-begun c =
    what_is_read_is_spelled _ _ _ (λ k d h. grind (arith, common_steps, c.type_inv.bytes k)) (search rules)
