use Rattle.std.proofs.Common.{◌≡◌, Some, slice_set}
use Rattle.r2_frag.specs.Assembly.{joined}
use Rattle.r2_frag.proofs.pieces.join_with.Given as goal

abbrev pub invariant-numbers : goal.invariant-numbers
invariant-numbers l = l.body.items ≡ joined l.n (slice_set l.places l.number (Some l.piece))
