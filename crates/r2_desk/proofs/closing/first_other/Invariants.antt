-- The own lists of the passes so far are those of their steps.
use Rattle.std.proofs.Common.{All, take}
use Rattle.r2_desk.specs.Closing.{HasItsOwn}
use Rattle.r2_desk.proofs.closing.first_other.Given as goal

abbrev pub invariant-passes : goal.invariant-passes
invariant-passes g l = All (HasItsOwn l.trail) (take l.place l.passes)
