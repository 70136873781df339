-- The name is the one that is selected so far, and the byte is the file's where it has one there.
use Rattle.std.proofs.Common.{◌≡◌, ◌<◌, length, take, get_or}
use Rattle.hc_disk.specs.Replay.{content_at, moments_at}
use Rattle.hc_disk.proofs.replay.file_byte.Given as goal

abbrev pub invariant-steps : goal.invariant-steps
invariant-steps l =
    (l.name ≡ (moments_at l.first l.pieces (take l.step-index l.steps)).now.selected)
    × (l.place < length (content_at l.first l.pieces (take l.step-index l.steps) l.wanted) → get_or (content_at l.first l.pieces (take l.step-index l.steps) l.wanted) l.place 0 ≡ l.byte)
