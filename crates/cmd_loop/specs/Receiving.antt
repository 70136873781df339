-- Why nothing could be received, or what was received led to no turn.
use Rattle.std.specs.Prelude.{◌⊎◌, [], ◌∷◌}
use Rattle.r2_link.specs.declared.lane.Item.{Item}
use Rattle.r2_link.specs.Links.{LinkPasses, LinkTold}
use Rattle.cmd_status.specs.declared.status.Status.{Status}
use Rattle.cmd_status.specs.declared.status.Status.TheVariants.{LinkFault, Memory}

-- the link failed, or memory ran out
abbrev pub StopsReceiving : Status → Type 0
StopsReceiving LinkFault = Unit {0}
StopsReceiving Memory = Unit {0}
StopsReceiving _ = ⊥

-- the link failed, or memory ran out, before an item was taken or after it
abbrev pub StopsTaking : LinkTold → LinkTold → Status → Type 0
StopsTaking old new LinkFault = LinkPasses old new [] []
StopsTaking old new Memory = LinkPasses old new [] [] ⊎ ((item : Item) × LinkPasses old new (item ∷ []) [])
StopsTaking old new _ = ⊥
