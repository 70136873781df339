-- What contracts see of the disk in memory.
use Rattle.std.specs.Prelude.{ℕ, ◌+◌, ◌<◌, ◌≤◌, ◌^◌, ⊤, List, [], ◌∷◌, ◌++◌, length, take, drop, bytes_eq, if◌then◌else◌, slice_index_or, Option, Some}
use Rattle.r2_base.specs.declared.room.Room.{Room}
use Rattle.r2_link.specs.Faults.{counted}
use Rattle.r2_link.specs.Memory.{room_after}
use Rattle.hc_disk.specs.declared.stored.StoredFile.{StoredFile}
use Rattle.hc_disk.specs.declared.steps.Run.{Run}
use Rattle.hc_disk.specs.declared.steps.Step.{Step}
use Rattle.hc_disk.specs.declared.steps.Step.TheVariants as step
use Rattle.hc_disk.specs.Disk.{File, Held, Moments, Wrote, Cut, content, later, selected_file, synced, with_change, with_file, with_selected}

-- a call that didn't fail, and of which the disk may hold something else since
pub data Call : Type 0 where
  Selected : (name : List ℕ) → Call
  Put : (at : ℕ) (piece : List ℕ) → Call
  Shortened : (len : ℕ) → Call
  Synced : Call

-- what a call makes of a disk
abbrev pub held_after : Call → Held → Held
held_after (Selected name) held = with_selected name held
held_after (Put at piece) held = with_file (with_change (Wrote at (length piece) piece)) held
held_after (Shortened len) held = with_file (with_change (Cut len len)) held
held_after Synced held = with_file synced held

-- the moments that calls make, one after another
abbrev pub moments_after : Moments → List Call → Moments
moments_after t [] = t
moments_after t (c ∷ calls) = moments_after (later t (held_after c t.now)) calls

-- the file of a name, of files that are all stable
abbrev pub file_of : List StoredFile → List ℕ → File
file_of [] name = record { stable = []; since = [] }
file_of (s ∷ files) name = if bytes_eq s.name name then record { stable = s.bytes; since = [] } else file_of files name

-- a disk with these files, at its first moment, and after calls
abbrev pub begun : List StoredFile → Moments
begun files = record { past = []; now = record { selected = []; files = file_of files } }

abbrev pub moments_of : List StoredFile → List Call → Moments
moments_of files calls = moments_after (begun files) calls

-- a write begins within the file, and ends within the greatest length
abbrev pub Fits : Call → Moments → Type 0
Fits (Selected name) t = ⊤
Fits (Put at piece) t = (at ≤ length (content (selected_file t.now))) × (at + length piece < 2 ^ 63)
Fits (Shortened len) t = ⊤
Fits Synced t = ⊤

-- each call fits what those before it left
abbrev pub IsSound : List StoredFile → List Call → Type 0
IsSound files calls = (i : ℕ) (c : Call) → i < length calls → Fits (slice_index_or calls i c) (moments_of files (take i calls))

-- a disk: its first files, the calls that changed something since, the first one first, the room that was given and that is left, the
-- calls made so far, the numbers of the calls that fail, and how often it failed
pub record DiskState : Type 0 where
  pub first : List StoredFile
  pub done : List Call
  pub given : Room
  pub room : Room
  pub calls : ℕ
  pub fails : List ℕ
  pub faults : ℕ

-- what it tells: all of it
abbrev pub told_by : DiskState → Option Moments
told_by d = Some (moments_of d.first d.done)

-- it is no reference to another disk
abbrev pub identity_of : DiskState → ℕ
identity_of d = 0

-- a disk at its beginning
abbrev pub new_disk : List StoredFile → Room → List ℕ → DiskState
new_disk files room fails = record { first = files; done = []; given = room; room = room; calls = 0; fails = fails; faults = 0 }

-- a call was made that took so many bytes of the room
abbrev pub with_call : Call → ℕ → DiskState → DiskState
with_call c size d = record d { done = d.done ++ c ∷ []; room = room_after d.room size; calls = counted d.calls }

-- a call was made that changed nothing
abbrev pub with_look : DiskState → DiskState
with_look d = record d { room = room_after d.room 0; calls = counted d.calls }

-- a call failed
abbrev pub with_fault : DiskState → DiskState
with_fault d = record d { calls = counted d.calls; faults = counted d.faults }

-- the bytes of a run
abbrev pub bytes_at : List ℕ → Run → List ℕ
bytes_at pieces run = take run.len (drop run.start pieces)

-- the call of a step, whose name or piece lies there
abbrev pub call_of : List ℕ → Step → Call
call_of pieces (step.Select run) = Selected (bytes_at pieces run)
call_of pieces (step.Write at run) = Put at (bytes_at pieces run)
call_of pieces (step.Cut len) = Shortened len
call_of pieces step.Sync = Synced

-- a step's name or piece lies within so many bytes
abbrev pub LiesWithin : ℕ → Step → Type 0
LiesWithin n (step.Select run) = run.start + run.len ≤ n
LiesWithin n (step.Write at run) = run.start + run.len ≤ n
LiesWithin n (step.Cut len) = ⊤
LiesWithin n step.Sync = ⊤
