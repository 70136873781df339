-- None of the bytes so far is the one that is looked for.
use Rattle.std.proofs.Common.{◌≡◌, ℕ, ◌<◌, get_or}
use Rattle.r2_base.proofs.text.split_once.Given as goal

abbrev pub invariant-bytes : goal.invariant-bytes
invariant-bytes l = (k : ℕ) → k < l.i → get_or l.text k 0 ≡ l.byte → ⊥
