-- The first bytes are those of the number that they give.
use Rattle.std.proofs.Common.{◌^◌, ◌∙◌, arith}
use Rattle.r2_base.specs.Numbers.{u16_bytes}
use Rattle.r2_base.proofs.NumberBytes.{wide16, wide-begin, wide-first}
use Rattle.r2_base.proofs.Splits.{from-on}
use Rattle.r2_base.proofs.numbers.split_u16.Goals as goal

pub returns-then-bytes-lt2-clause-only : goal.returns-then-bytes-lt2-clause-only
returns-then-bytes-lt2-clause-only c n rest fits same =
    let first = wide-first 2 (2 ^ 16) u16_bytes wide16 c.args.bytes.now n rest fits same in
    omega (arith, first.long)

pub returns-clause-found : goal.returns-clause-found
returns-clause-found c =
    rw (from-on 2 c.args.bytes.now, c.read_u16-n.ensures) (wide-begin 2 (2 ^ 16) u16_bytes wide16 c.args.bytes.now (λ i. (c.type_inv.bytes i).fits) c.if-bytes-lt2.false)

pub returns-clause-only : goal.returns-clause-only
returns-clause-only c n rest fits same =
    let first = wide-first 2 (2 ^ 16) u16_bytes wide16 c.args.bytes.now n rest fits same in
    (c.read_u16-n.ensures ∙ first.number, from-on 2 c.args.bytes.now ∙ first.after)
