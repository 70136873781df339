-- The name is the one that is selected so far, and the length is the file's.
use Rattle.std.proofs.Common.{◌≡◌, length, take}
use Rattle.hc_disk.specs.Replay.{content_at, moments_at}
use Rattle.hc_disk.proofs.replay.file_length.Given as goal

abbrev pub invariant-steps : goal.invariant-steps
invariant-steps l =
    (l.name ≡ (moments_at l.first l.pieces (take l.step-index l.steps)).now.selected) × (l.size ≡ length (content_at l.first l.pieces (take l.step-index l.steps) l.wanted))
