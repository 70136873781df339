-- Which object of the outside failed where a command ended by a fault.
use Rattle.std.specs.Prelude.{◌≡◌}
use Rattle.r2_link.specs.Faults.{Faults, Rose}
use Rattle.cmd_status.specs.declared.status.Status.{Status}
use Rattle.cmd_status.specs.declared.status.Status.TheVariants.{SourceFault, SinkFault, LinkFault, DiskFault, ClockFault}

-- a fault is told only of an object whose count of faults rose
pub record IsCaused (old new : Faults) (status : Status) : Type 0 where
  pub source : status ≡ SourceFault → Rose old.source new.source
  pub sink : status ≡ SinkFault → Rose old.sink new.sink
  pub link : status ≡ LinkFault → Rose old.link new.link
  pub clock : status ≡ ClockFault → Rose old.clock new.clock
  pub disk : status ≡ DiskFault → Rose old.disk new.disk
