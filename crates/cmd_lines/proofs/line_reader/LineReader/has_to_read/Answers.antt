-- Where a line is known, what waits is not the beginning of one.
use Rattle.std.proofs.Common.{ℕ, List, ap, subst}
use Rattle.cmd_lines.specs.Reader.{ReaderState}
use Rattle.cmd_lines.specs.FirstLines.{IsLineLen}
use Rattle.cmd_lines.proofs.Buffers.{waiting}
use Rattle.cmd_lines.proofs.FirstLines.{line_len_is_no_part}
use Rattle.cmd_lines.proofs.line_reader.LineReader.has_to_read.Goals as goal

pub returns-in-Line-clause-answer : goal.returns-in-Line-clause-answer
returns-in-Line-clause-answer c =
    let now = c.args.self.now in
    let is = waiting c.deref.result.now c.self.inside.buffer.items now.pending c.self.inside.start c.deref.ensures.value (ap (λ (s : ReaderState). s.pending) c.self.view_is) in
    let longest = ap (λ (s : ReaderState). s.longest) c.self.view_is in
    let begins = subst (λ (n : ℕ). IsLineLen n now.pending c.in-Line.field-0) longest (subst (λ (l : List ℕ). IsLineLen c.self.inside.longest l c.in-Line.field-0) is c.in-Line.ensures) in
    ((λ no. absurd (cc)), (λ part. absurd (line_len_is_no_part now.longest now.pending c.in-Line.field-0 begins part.0)))
