-- A loop on one twin of a link.
use Rattle.std.specs.Prelude.{List, Option, None}
use Rattle.r2_link.specs.declared.lane.Item.{Item}
use Rattle.r2_link.specs.Told.{HasFirst, IsKept, LosesFirst}
use Rattle.cmd_status.specs.declared.status.Status.{Status}
use Rattle.cmd_loop.specs.declared.pace.Pace.{Pace}
use Rattle.cmd_loop.specs.Ends.{Ends}
use Rattle.cmd_loop.specs.Loop.{Rule, Serves}

-- a loop ran on a twin of a link, on the first of the lanes that were left, and ended so; what the twin sent, the link sent, and its
-- own items are left
pub record RunsOnTwin (D W S : Rule) (pace : Pace) (old new : Ends) (status : Status) : Type 0 where
  pub first : Option (List Item)
  pub last : Option (List Item)
  pub lane : HasFirst old.link.lanes first
  pub lanes : LosesFirst old.link.lanes new.link.lanes
  pub left : IsKept old.link.left new.link.left
  pub served : Serves D W S pace (record old { link = record old.link { left = first; lanes = None } }) (record new { link = record new.link { left = last; lanes = None } }) status
