use Rattle.std.proofs.Common.{◌≡◌, None, replicate}
use Rattle.r2_frag.proofs.pieces.empty_places.Given as goal

abbrev pub invariant-places : goal.invariant-places
invariant-places l = l.places.items ≡ replicate l._number None
