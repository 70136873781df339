use Rattle.std.proofs.Common.{◌≡◌, Some, true, slice_set}
use Rattle.r2_frag.specs.Assembly.{has_all}
use Rattle.r2_frag.proofs.pieces.has_all_with.Given as goal

abbrev pub invariant-numbers : goal.invariant-numbers
invariant-numbers l = has_all l.n (slice_set l.places l.number (Some l.piece)) ≡ true
