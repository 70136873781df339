-- What is given is the answer.
use Rattle.std.proofs.Common.{ℕ, List, ap, subst}
use Rattle.cmd_lines.specs.Reader.{ReaderState}
use Rattle.cmd_lines.specs.FirstLines.{IsLineLen}
use Rattle.cmd_lines.specs.Steps.{IsSound}
use Rattle.cmd_lines.proofs.FirstLines.{line_len_is_no_part}
use Rattle.cmd_lines.proofs.Buffers.{waiting}
use Rattle.cmd_lines.proofs.Steps.{answers_line, unended}
use Rattle.cmd_lines.proofs.line_reader.LineReader.hand_out.Goals as goal

pub returns-in-Line-clause-answers : goal.returns-in-Line-clause-answers
returns-in-Line-clause-answers c =
    let now = c.args.self.now in
    let is = waiting c.deref.result.now c.self.inside.buffer.items now.pending c.self.inside.start c.deref.ensures.value (ap (λ (s : ReaderState). s.pending) c.self.view_is) in
    let longest = ap (λ (s : ReaderState). s.longest) c.self.view_is in
    let begins = subst (λ (n : ℕ). IsLineLen n now.pending c.in-Line.len) longest (subst (λ (l : List ℕ). IsLineLen c.self.inside.longest l c.in-Line.len) is c.in-Line.ensures) in
    answers_line now c.give.new.self c.in-Line.len c.give.result begins (unended now (subst IsSound c.self.view_is c.self.invariant.1) (line_len_is_no_part now.longest now.pending c.in-Line.len begins)) c.give.ensures.line c.give.ensures.rest c.give.ensures.unchanged c.give.ensures.cause
