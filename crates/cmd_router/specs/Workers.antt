-- How several workers end together, by how each of them ended.
use Rattle.std.specs.Prelude.{Bool, true, false, if◌then◌else◌, List, ⊤}
use Rattle.std.specs.List.{find, list_any}
use Rattle.std.specs.Option.{unwrap_or}
use Rattle.cmd_status.specs.declared.status.Status.{Status}
use Rattle.cmd_status.specs.declared.status.Status.TheVariants.{ClockFault, Done, LinkFault, Memory, TurnsSpent}

-- a worker met a fault or found no memory
abbrev pub is_fault : Status → Bool
is_fault Done = false
is_fault TurnsSpent = false
is_fault _ = true

-- a worker made all of its receives
abbrev pub is_spent : Status → Bool
is_spent TurnsSpent = true
is_spent _ = false

-- workers end as the lowest of them that met a fault or found no memory; where none did, by their last receives if one made all of
-- its receives, and else by the end
abbrev pub end_of : List Status → Status
end_of statuses = unwrap_or (find is_fault statuses) (if list_any is_spent statuses then TurnsSpent else Done)

-- how a worker may end, and so all of them together
abbrev pub IsWorkersEnd : Status → Type 0
IsWorkersEnd Done = ⊤
IsWorkersEnd TurnsSpent = ⊤
IsWorkersEnd LinkFault = ⊤
IsWorkersEnd ClockFault = ⊤
IsWorkersEnd Memory = ⊤
IsWorkersEnd _ = ⊥
