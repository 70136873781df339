-- What a call hands out at its end, it hands out of all that it took.
use Rattle.std.proofs.Common.{inl, inr, ◌∙◌}
use Rattle.cmd_lines.proofs.Steps.{answers_held, may_not, took_none}
use Rattle.cmd_lines.proofs.line_reader.LineReader.next_line.Goals as goal

pub returns-clause-reads : goal.returns-clause-reads
returns-clause-reads g c =
    let old = c.args.self.now in
    let now = c.reads.self in
    let far = c.reads.invariant.so_far in
    record {
      taken = far.taken;
      took = far.took;
      counted = c.hand_out.ensures.taken ∙ far.counted;
      limit = c.hand_out.ensures.limit ∙ far.limit;
      lazy = λ known. elim c.reads.invariant.lazy [
        | inl same ↦ took_none old now _ _ far same.0
        | inr may ↦ absurd (may_not old may known)
      ];
      needed = far.needed;
      did = answers_held old now c.hand_out.new.self far.taken c.hand_out.result far.limit far.waits far.lines c.hand_out.ensures.answers;
    }

pub returns-clause-lazy : goal.returns-clause-lazy
returns-clause-lazy g c = λ known. elim c.reads.invariant.lazy [
  | inl same ↦ same.1
  | inr may ↦ absurd (may_not c.args.self.now may known)
]
