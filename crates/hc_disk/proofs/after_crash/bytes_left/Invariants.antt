-- The name is the one that is selected so far, and the bytes are what a read gives of the file, and what is left of it.
use Rattle.std.proofs.Common.{◌≡◌, take}
use Rattle.hc_disk.specs.Replay.{content_at, moments_at}
use Rattle.hc_disk.specs.Crash.{left_by}
use Rattle.hc_disk.proofs.after_crash.bytes_left.Given as goal

abbrev pub invariant-steps : goal.invariant-steps
invariant-steps l =
    (l.name ≡ (moments_at l.first l.pieces (take l.step-index l.steps)).now.selected)
    × (l.content.items ≡ content_at l.first l.pieces (take l.step-index l.steps) l.wanted)
    × (l.left.items ≡ left_by l.pick ((moments_at l.first l.pieces (take l.step-index l.steps)).now.files l.wanted))
