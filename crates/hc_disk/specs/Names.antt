-- The names of the files that a crash leaves.
use Rattle.std.specs.Prelude.{◌≡◌, ℕ, Bool, true, false, bytes_eq, List, [], ◌∷◌, All, ⊤, if◌then◌else◌}
use Rattle.hc_disk.specs.declared.stored.StoredFile.{StoredFile}
use Rattle.hc_disk.specs.declared.steps.Step.{Step}
use Rattle.hc_disk.specs.declared.steps.Step.TheVariants as step
use Rattle.hc_disk.specs.Disk.{Moments}
use Rattle.hc_disk.specs.MemDisk.{bytes_at}
use Rattle.hc_disk.specs.Crash.{left_by}

-- one of the files has this name
abbrev pub has : List StoredFile → List ℕ → Bool
has [] name = false
has (s ∷ files) name = if bytes_eq s.name name then true else has files name

abbrev pub HasName : List StoredFile → List ℕ → Type 0
HasName files name = has files name ≡ true

-- one of them has the name that a step selects
abbrev pub HasSelected : List ℕ → List StoredFile → Step → Type 0
HasSelected pieces files (step.Select run) = HasName files (bytes_at pieces run)
HasSelected pieces files (step.Write at run) = ⊤
HasSelected pieces files (step.Cut len) = ⊤
HasSelected pieces files step.Sync = ⊤

-- each file is what is left of the one of its name
abbrev pub IsOf : ℕ → Moments → StoredFile → Type 0
IsOf pick t s = s.bytes ≡ left_by pick (t.now.files s.name)

abbrev pub AreOf : ℕ → Moments → List StoredFile → Type 0
AreOf pick t files = All (IsOf pick t) files

-- the file of this name, as a crash leaves it
abbrev pub left_file : ℕ → Moments → List ℕ → StoredFile
left_file pick t name = record { name = name; bytes = left_by pick (t.now.files name) }
