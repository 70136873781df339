-- What a file is after calls, as it is found by going over their steps.
use Rattle.std.specs.Prelude.{ℕ, ◌+◌, ◌-◌, ◌<◌, ◌^◌, ⊤, Bool, true, false, ◌&&◌, nat_lt, nat_le, min, max, List, map, get_or, if◌then◌else◌}
use Rattle.hc_disk.specs.declared.stored.StoredFile.{StoredFile}
use Rattle.hc_disk.specs.declared.steps.Step.{Step}
use Rattle.hc_disk.specs.declared.steps.Step.TheVariants as step
use Rattle.hc_disk.specs.Disk.{Moments, content}
use Rattle.hc_disk.specs.MemDisk.{call_of, bytes_at, moments_of}

-- the disk after steps
abbrev pub moments_at : List StoredFile → List ℕ → List Step → Moments
moments_at files pieces steps = moments_of files (map (call_of pieces) steps)

-- what a read of a file gives then
abbrev pub content_at : List StoredFile → List ℕ → List Step → List ℕ → List ℕ
content_at files pieces steps name = content ((moments_at files pieces steps).now.files name)

-- the name of the selected file after a step
abbrev pub name_after : List ℕ → Step → List ℕ → List ℕ
name_after pieces (step.Select run) name = bytes_at pieces run
name_after pieces (step.Write at run) name = name
name_after pieces (step.Cut len) name = name
name_after pieces step.Sync name = name

-- the length of a file after a step, which changes it where it is the selected one
abbrev pub size_after : Step → Bool → ℕ → ℕ
size_after s false size = size
size_after (step.Select run) true size = size
size_after (step.Write at run) true size = max size (at + run.len)
size_after (step.Cut len) true size = min len size
size_after step.Sync true size = size

-- a write ends within the greatest length
abbrev pub EndsWithin : Step → Type 0
EndsWithin (step.Select run) = ⊤
EndsWithin (step.Write at run) = at + run.len < 2 ^ 63
EndsWithin (step.Cut len) = ⊤
EndsWithin step.Sync = ⊤

-- the byte at a place after a step, where the file has one there
abbrev pub byte_after : List ℕ → Step → Bool → ℕ → ℕ → ℕ
byte_after pieces s false place byte = byte
byte_after pieces (step.Select run) true place byte = byte
byte_after pieces (step.Write at run) true place byte = if nat_le at place && nat_lt place (at + run.len) then get_or (bytes_at pieces run) (place - at) 0 else byte
byte_after pieces (step.Cut len) true place byte = byte
byte_after pieces step.Sync true place byte = byte
