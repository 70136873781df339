-- The byte that is found is the first, and a text with no such byte has no split.
use Rattle.std.proofs.Common.{◌+◌, arith}
use Rattle.r2_base.proofs.Splits.{from-on, split-found, split-only, split-none}
use Rattle.r2_base.proofs.text.split_once.Goals as goal

pub returns-then-b-byte-clause-found : goal.returns-then-b-byte-clause-found
returns-then-b-byte-clause-found c =
    rw (from-on (c.bytes.i + 1) c.args.text.now) (split-found c.args.byte c.bytes.i c.args.text.now c.bytes.invariant c.bytes-test.true c.if-b-byte.true)

pub returns-then-b-byte-clause-only : goal.returns-then-b-byte-clause-only
returns-then-b-byte-clause-only c front rest split =
    rw (from-on (c.bytes.i + 1) c.args.text.now) (split-only c.args.byte c.bytes.i c.args.text.now front rest c.bytes.invariant c.if-b-byte.true split)

pub returns-clause-only : goal.returns-clause-only
returns-clause-only c front rest split =
    split-none c.args.byte c.args.text.now front rest (λ k below. c.bytes.invariant k (omega arith)) split
