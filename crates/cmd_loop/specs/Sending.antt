-- Datagrams that were sent up to one at which the link failed, and why a record wasn't stored.
use Rattle.std.specs.Prelude.{◌≡◌, List, [], ◌++◌}
use Rattle.r2_base.specs.declared.datagram.Datagram.{Datagram}
use Rattle.r2_link.specs.Links.{LinkPasses, LinkTold}
use Rattle.cmd_status.specs.declared.status.Status.{Status}
use Rattle.cmd_status.specs.declared.status.Status.TheVariants.{DiskFault, Memory}

-- a prefix of them was sent, and nothing else passed
pub record SendsPrefix (old new : LinkTold) (sends : List Datagram) : Type 0 where
  pub sent : List Datagram
  pub unsent : List Datagram
  pub split : sends ≡ sent ++ unsent
  pub passed : LinkPasses old new [] sent

-- the disk failed, or memory ran out
abbrev pub StopsStoring : Status → Type 0
StopsStoring DiskFault = Unit {0}
StopsStoring Memory = Unit {0}
StopsStoring _ = ⊥
