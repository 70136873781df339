-- What holds of the parts of a disk in memory.
use Rattle.std.specs.Prelude.{ℕ, ◌+◌, ◌≤◌, List, length, map, All, Vec, vec_capacity}
use Rattle.std.specs.declared.alloc.Global.{Global}
use Rattle.r2_base.specs.declared.room.Room.{Room}
use Rattle.hc_disk.specs.declared.stored.StoredFile.{StoredFile}
use Rattle.hc_disk.specs.declared.steps.Step.{Step}
use Rattle.hc_disk.specs.MemDisk.{IsSound, LiesWithin, call_of}

-- there is a capacity for the room that is left, each step lies within the bytes, and each call fits what those before it left
pub record IsReady (first : List StoredFile) (pieces : Vec ℕ Global) (steps : Vec Step Global) (room : Room) : Type 0 where
  pub bytes : length pieces.items + room.bytes ≤ vec_capacity pieces
  pub calls : length steps.items + room.calls ≤ vec_capacity steps
  pub inside : All (LiesWithin (length pieces.items)) steps.items
  pub sound : IsSound first (map (call_of pieces.items) steps.items)
