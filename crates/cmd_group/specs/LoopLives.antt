-- What the contract of a replica's loop says of it: it is a life.
use Rattle.std.specs.Prelude.{◌≡◌, ℕ, List, [], ◌∷◌, ◌++◌}
use Rattle.r2_base.specs.declared.event.Event.{Event}
use Rattle.r2_link.specs.declared.lane.Item.{Item}
use Rattle.hc_log.specs.declared.record.Record.{Record}
use Rattle.hc_log.specs.Durable.{replay}
use Rattle.hc_member.specs.declared.setup.Setup.{Setup}
use Rattle.cmd_status.specs.declared.status.Status.{Status}
use Rattle.cmd_status.specs.declared.status.Status.TheVariants.{DiskFault}
use Rattle.cmd_loop.specs.declared.pace.Pace.{Pace}
use Rattle.cmd_loop.specs.Ends.{Ends, Passes, passing}
use Rattle.cmd_loop.specs.Events.{events}
use Rattle.cmd_loop.specs.Loop.{Serves}
use Rattle.cmd_replica.specs.Replica.{ReplicaServes, ReplicaServesAll}
use Rattle.cmd_group.specs.Lives.{Ending, Broken, IsEnd, IsLife, Life, sent_in, stored_in}

-- the events that a life took in: those of its whole turns, and that of the turn in which it broke
abbrev pub ending_events : Ending → List Event
ending_events (Broken e sent) = e ∷ []
ending_events _ = []

abbrev pub taken_in : Life → List Event
taken_in life = life.events ++ ending_events life.ending

-- a loop between these ends that received these items and asked for these moments is a life that began with some records and is over: it
-- took in their events, in their order and from the first on; what it stored came into the journal, but for records that were kept though they weren't acknowledged; and
-- what it sent went out
pub record HasLife (s : Setup) (from : List Record) (pace : Pace) (old new : Ends) (items : List Item) (moments : List ℕ) (kept : List Record) : Type 0 where
  pub life : Life
  pub begins : life.records ≡ from
  pub is : IsLife s life
  pub over : IsEnd life.ending
  pub left : List Event
  pub taken : events pace.tick_ms items moments ≡ taken_in life ++ left
  pub stored : List Record
  pub journal : stored_in s life ≡ stored ++ kept
  pub passed : Passes old new (passing items moments stored (sent_in s life))

-- a loop of a replica ended so, which began with the durable state that these records lead to
abbrev pub ServedFrom : Setup → List Record → Pace → Ends → Ends → Status → Type 0
ServedFrom s from pace old new status =
    Serves (ReplicaServesAll s (replay from)) (ReplicaServes s (replay from)) (ReplicaServes s (replay from)) pace old new status

-- it is a life whose records are those that it stored
abbrev pub LoopsAreLives : Type 0
LoopsAreLives =
    (s : Setup) (from : List Record) (pace : Pace) (old new : Ends) (status : Status) (serves : ServedFrom s from pace old new status)
    → HasLife s from pace old new serves.items serves.moments []

-- the life of a loop that ended in a turn whose record it couldn't store, where the record is kept all the same: nothing of the turn
-- was sent
pub record KeepsRecord (s : Setup) (from : List Record) (pace : Pace) (old new : Ends) (items : List Item) (moments : List ℕ) : Type 0 where
  pub kept : List Record
  pub has : HasLife s from pace old new items moments kept
  pub last : Event
  pub lost : has.life.ending ≡ Broken last []

-- where the disk failed, a loop is that life too
abbrev pub LostRecordsMayStay : Type 0
LostRecordsMayStay =
    (s : Setup) (from : List Record) (pace : Pace) (old new : Ends) (serves : ServedFrom s from pace old new DiskFault)
    → KeepsRecord s from pace old new serves.items serves.moments
