-- The places so far have the file's bytes, and the slice is as long as it was.
use Rattle.std.proofs.Common.{◌≡◌, ℕ, ◌+◌, ◌<◌, length, get_or}
use Rattle.hc_disk.specs.Replay.{content_at}
use Rattle.hc_disk.proofs.replay.fill.Given as goal

abbrev pub invariant-places : goal.invariant-places
invariant-places l =
    (length l.into ≡ length l.initial.into)
    × ((k : ℕ) → k < l.i → get_or l.into k 0 ≡ get_or (content_at l.first l.pieces l.steps l.wanted) (l.at + k) 0)
