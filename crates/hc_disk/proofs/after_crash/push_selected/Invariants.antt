-- The files so far are left, and among them those from before and each that was selected by the first steps.
use Rattle.std.proofs.Common.{ℕ, List, All, take}
use Rattle.hc_disk.specs.Replay.{moments_at}
use Rattle.hc_disk.specs.Names.{AreOf, HasName, HasSelected}
use Rattle.hc_disk.proofs.after_crash.push_selected.Given as goal

abbrev pub invariant-steps : goal.invariant-steps
invariant-steps l =
    AreOf l.pick (moments_at l.first l.pieces l.steps) l.files.items
    × ((name : List ℕ) → HasName l.initial.files.items name → HasName l.files.items name)
    × All (HasSelected l.pieces l.files.items) (take l.step-index l.steps)
