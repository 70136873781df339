-- The files so far are left, and among them each of the first ones.
use Rattle.std.proofs.Common.{All, take}
use Rattle.hc_disk.specs.Replay.{moments_at}
use Rattle.hc_disk.specs.Names.{AreOf, HasName}
use Rattle.hc_disk.proofs.after_crash.push_first.Given as goal

abbrev pub invariant-files : goal.invariant-files
invariant-files l = AreOf l.pick (moments_at l.first l.pieces l.steps) l.files.items × All (λ s. HasName l.files.items s.name) (take l.file-index l.first)
