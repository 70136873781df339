-- A line that is too long is seen by its end's place, or by the bytes without an end.
use Rattle.std.proofs.Common.{refl, arith}
use Rattle.cmd_lines.proofs.FirstLines.{long_of, long_of_all}
use Rattle.cmd_lines.proofs.first_line.first_line_of.Goals as goal

pub returns-then-len-longest : goal.returns-then-len-longest
returns-then-len-longest c =
    long_of c.args.longest c.args.bytes.now c.in-Some.len c.in-Some.ensures.first c.if-len-longest.true (omega (arith, c.in-Some.ensures.within, c.if-len-longest.true))

pub returns-then-bytes-longest : goal.returns-then-bytes-longest
returns-then-bytes-longest c = long_of_all c.args.longest c.args.bytes.now (c.in-None.ensures.none refl) c.if-bytes-longest.true
