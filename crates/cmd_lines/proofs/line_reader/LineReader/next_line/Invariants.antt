-- What was taken so far waits, and nothing was taken where the line was known.
use Rattle.std.proofs.Common.{◌≡◌, ◌⊎◌, ◌≤◌}
use Rattle.cmd_lines.specs.Reader.{KnowsEnd}
use Rattle.cmd_lines.proofs.Steps.{MayRead, Waits, may_take}
use Rattle.cmd_lines.proofs.line_reader.LineReader.next_line.Given as goal

abbrev pub invariant-reads : goal.invariant-reads
invariant-reads g l = record {
  so_far : Waits l.initial.self l.self (g.S.Source.left l.initial.source) (g.S.Source.left l.source);
  lazy : ((l.self ≡ l.initial.self) × (l.source ≡ l.initial.source)) ⊎ MayRead l.initial.self;
  ends : KnowsEnd l.initial.self (g.S.Source.left l.initial.source) → KnowsEnd l.self (g.S.Source.left l.source);
  steady : g.S.Source.faults l.initial.source ≤ g.S.Source.faults l.source;
}

abbrev pub decreases-reads : goal.decreases-reads
decreases-reads g l = may_take l.self
