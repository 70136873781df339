-- The name is the one that is selected so far.
use Rattle.std.proofs.Common.{◌≡◌, List, take}
use Rattle.hc_disk.specs.declared.stored.StoredFile.{StoredFile}
use Rattle.hc_disk.specs.Replay.{moments_at}
use Rattle.hc_disk.proofs.replay.selected_name.Given as goal

abbrev pub invariant-steps : goal.invariant-steps
invariant-steps l = (files : List StoredFile) → l.name ≡ (moments_at files l.pieces (take l.step-index l.steps)).now.selected
