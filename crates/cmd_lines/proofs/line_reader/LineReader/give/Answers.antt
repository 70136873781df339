-- What waits after a line that was given is as sound as before.
use Rattle.std.proofs.Common.{◌≤◌, length, drop, sym, subst, arith, length-drop}
use Rattle.cmd_lines.specs.Reader.{ReaderState}
use Rattle.cmd_lines.proofs.Steps.{sound_after}
use Rattle.cmd_lines.proofs.line_reader.LineReader.give.Goals as goal

pub invariant_of-self : goal.invariant_of-self
invariant_of-self c =
    let a = c.self.inside in
    let within : c.args.gone ≤ length (drop a.start a.buffer.items) =
    subst (λ (s : ReaderState). c.args.gone ≤ length s.pending) (sym c.self.view_is) c.requires.within in (
      omega (arith, within, length-drop a.start a.buffer.items, c.self.invariant.0),
      sound_after a.buffer.items a.start c.args.gone a.taken a.lines a.longest a.ended c.self.invariant.1 c.requires.some within,
    )
