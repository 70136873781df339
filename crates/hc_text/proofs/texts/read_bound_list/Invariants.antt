-- The bounds so far are those of the first parts.
use Rattle.std.proofs.Common.{decimal, map, take}
use Rattle.hc_text.proofs.Lists.{AreRead, FitsBound}
use Rattle.hc_text.proofs.texts.read_bound_list.Given as goal

abbrev pub invariant-parts : goal.invariant-parts
invariant-parts l = AreRead FitsBound decimal (take l.part-index (map (λ x. x.now) l.parts)) l.bounds.items
